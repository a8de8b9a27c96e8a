-- The working memory of handle reduction. Only contracts of functions that are no operation of the papers cite these
-- definitions. A row of codes has a gap: the word is the codes before the gap and the codes after it. Two tables say
-- where the generators last occur before the gap.
use Rattle.std.specs.Prelude.{ℕ, zero, suc, ◌+◌, ◌-◌, ◌≤◌, ◌<◌, ◌≡◌, true, cond, List, ◌++◌, eqb, length, take, drop}
use Rattle.std.specs.Prelude.{get_or, set}
use Rattle.base.specs.Lists.{every}
use Rattle.word.specs.Letters.{is_letter, generator}
use Rattle.braid_handles.specs.Handles.{start_of, ends, conjugated_letter, conjugated}

-- the word in a row: the first `left` codes, and the codes from `right` on
abbrev pub gapped : List ℕ → ℕ → ℕ → List ℕ
gapped row left right = take left row ++ drop right row

-- The slot of a letter is i for b_i and for its inverse. No letter has slot 0.
abbrev pub letter_slot : ℕ → ℕ
letter_slot c = generator c + 1

-- one more than the latest of the first n places that has a letter of slot s; 0 if none has
unfoldable pub latest_of : ℕ → List ℕ → ℕ → ℕ
latest_of s w zero = 0
latest_of s w (suc n) = cond (eqb (letter_slot (get_or w n 0)) s) (suc n) (latest_of s w n)

-- the first table: entry s says where slot s last occurs among the row's first n places, as `latest_of` counts
pub record Latest (row latest : List ℕ) (n : ℕ) : Type 0 where
  pub slots : length latest ≡ 9
  pub latest_is : (s : ℕ) → s < 9 → get_or latest s 0 ≡ latest_of s row n

-- Both tables, for the row's first n places. Entry k of the second table says where the slot of the code at place k
-- last occurs before place k.
pub record Tables (row latest before : List ℕ) (n : ℕ) : Type 0 where
  pub newest : Latest row latest n
  pub before_is : (k : ℕ) → k < n → get_or before k 0 ≡ latest_of (letter_slot (get_or row k 0)) row k

-- Does a handle end with the first code after the gap? The value is one more than the place where this handle begins,
-- or 0 if there is no such handle.
abbrev pub beginning : List ℕ → ℕ → ℕ → ℕ
beginning row left right =
    cond (ends (gapped row left right) left) (start_of (gapped row left right) left + 1) 0

-- A code stands after the gap, all codes of the word are letters, and the first table is that of the codes before the
-- gap.
pub record Reads (row latest : List ℕ) (left right : ℕ) : Type 0 where
  pub gap : left < right
  pub within : right < length row
  pub lettered : every is_letter (gapped row left right) ≡ true
  pub newest : Latest row latest left

-- a gap of at least one place in a row, with room in the table beside it
pub record Open (row before : List ℕ) (left right : ℕ) : Type 0 where
  pub gap : left < right
  pub within : right < length row
  pub beside : length before ≡ length row
  pub small : length row ≤ 10001

-- The first code after the gap is stored as the last code before the gap, and both tables count it.
pub record LetterKept (row row' latest before : List ℕ) (left right : ℕ) : Type 0 where
  pub row_is : row' ≡ set row left (get_or row right 0)
  pub tables : Tables row' latest before (left + 1)

-- a part that has room before place `at` for what replaces d in a handle that begins with a
pub record RoomFor (part : List ℕ) (at a d : ℕ) : Type 0 where
  pub letter : a < 16
  pub enough : length (conjugated_letter a d) ≤ at
  pub within : at ≤ length part

-- what replaces d is written right before place `at`; the other codes are unchanged
pub record Replaces (part part' : List ℕ) (at a d r : ℕ) : Type 0 where
  pub place : r + length (conjugated_letter a d) ≡ at
  pub part_is : part' ≡ take r part ++ (conjugated_letter a d ++ drop at part)

-- what replaces the first n codes of a part stands at the part's end, from place r on
pub record Conjugates (part part' : List ℕ) (n a r : ℕ) : Type 0 where
  pub place : r + length (conjugated a (take n part)) ≡ length part
  pub end_is : drop r part' ≡ conjugated a (take n part)

-- a list of codes that has room for the word around a gap
pub record Gathers (row : List ℕ) (left right : ℕ) (codes : List ℕ) : Type 0 where
  pub front : left ≤ length row
  pub within : right ≤ length row
  pub room : left + (length row - right) ≤ length codes
