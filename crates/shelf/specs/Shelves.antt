-- The key shelf of two publishers, numbered 1 and 2 (document 02, §8). Each publisher has its own key numbers 0 to 3. A
-- shelf is plain bytes: eight slots, first those of publisher 1, then those of publisher 2, and then four bytes for the
-- letters charged (§14). A slot holds the length of a key file, then the file, then zeros. The empty file stands for no
-- key, so a slot of zeros holds none.
use Rattle.std.specs.Prelude.{ℕ, ◌+◌, ◌-◌, ◌*◌, Bool, cond, ◌&&◌, ◌||◌, List, [], ◌∷◌, ◌++◌, leb, ltb, eqb, length}
use Rattle.std.specs.Prelude.{take, drop, get_or, replicate}
use Rattle.base.specs.Lists.{overlaid}
use Rattle.base.specs.Digits.{part}

-- the bytes of a slot: 1 for the length and 128 for the longest key file
abbrev pub file_room : ℕ
file_room = 128

abbrev pub slot_bytes : ℕ
slot_bytes = 1 + file_room

-- the bytes of the eight slots, and of a shelf
abbrev pub slots_bytes : ℕ
slots_bytes = 8 * slot_bytes

abbrev pub shelf_bytes : ℕ
shelf_bytes = slots_bytes + 4

unfoldable pub empty_shelf : List ℕ
empty_shelf = replicate shelf_bytes 0

abbrev pub is_publisher : ℕ → Bool
is_publisher publisher = eqb publisher 1 || eqb publisher 2

-- Is there a slot for this publisher and key number?
abbrev pub has_slot : ℕ → ℕ → Bool
has_slot publisher number = is_publisher publisher && leb number 3

-- the place where the slot begins
abbrev pub slot_place : ℕ → ℕ → ℕ
slot_place publisher number = slot_bytes * (4 * (publisher - 1) + number)

-- the slot of a file of at most 128 bytes
unfoldable pub slot_with : List ℕ → List ℕ
slot_with file = length file ∷ overlaid file (replicate file_room 0)

-- the file in a slot, whatever bytes the slot has
unfoldable pub file_in : List ℕ → List ℕ
file_in slot = take (get_or slot 0 0) (drop 1 slot)

-- The key file that a publisher's number holds. It is empty if the number holds no key, and if there is no such number.
unfoldable pub held : ℕ → ℕ → List ℕ → List ℕ
held publisher number shelf =
    cond (has_slot publisher number) (file_in (part (slot_place publisher number) slot_bytes shelf)) []

-- Is a key held? The empty file stands for no key.
abbrev pub is_held : List ℕ → Bool
is_held file = ltb 0 (length file)

-- the list `before`, in which `bytes` replace as many bytes from place `at` on
unfoldable pub replaced : ℕ → List ℕ → List ℕ → List ℕ
replaced at bytes before = take at before ++ overlaid bytes (drop at before)

-- the shelf after a publisher's number was given a file; the empty file clears the number
abbrev pub holding : ℕ → ℕ → List ℕ → List ℕ → List ℕ
holding publisher number file shelf = replaced (slot_place publisher number) (slot_with file) shelf
