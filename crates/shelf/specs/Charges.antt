-- Fair use of the checking chip (document 02, §14). A shelf ends with the letters charged to each publisher in this
-- round, 2 bytes each, high byte first. In a round each publisher is sure of 10,000 letters, and a further 10,000 go to
-- whoever comes first.
use Rattle.std.specs.Prelude.{ℕ, ◌+◌, ◌-◌, ◌*◌, Bool, List, leb, replicate}
use Rattle.base.specs.Digits.{value, digits, part}
use Rattle.shelf.specs.Shelves.{slots_bytes, replaced}

-- the letters of which each publisher is sure, and the letters for whoever comes first
abbrev pub sure : ℕ
sure = 10000

abbrev pub further : ℕ
further = 10000

-- the amount by which a charge is over 10,000
abbrev pub over_by : ℕ → ℕ
over_by charge = charge - sure

-- the place of the letters charged to a publisher
abbrev pub charge_place : ℕ → ℕ
charge_place publisher = slots_bytes + 2 * (publisher - 1)

-- the letters charged to a publisher in this round, whatever bytes the shelf has: at most 65,535
unfoldable pub charged : ℕ → List ℕ → ℕ
charged publisher shelf = value 256 (part (charge_place publisher) 2 shelf)

-- the other publisher
abbrev pub partner : ℕ → ℕ
partner publisher = 3 - publisher

-- A slip of n letters is admitted if, after it, the amounts by which each publisher is over 10,000 sum to at most
-- 10,000. `own` and `others` are the letters charged to its publisher and to the partner before the slip.
abbrev pub admits : ℕ → ℕ → ℕ → Bool
admits n own others = leb (over_by (own + n) + over_by others) further

abbrev pub admitted : ℕ → ℕ → List ℕ → Bool
admitted publisher n shelf = admits n (charged publisher shelf) (charged (partner publisher) shelf)

-- The shelf after n letters were charged to a publisher. An admitted slip leaves a charge of at most 20,000, so 2 bytes
-- hold it, whatever bytes the shelf had.
abbrev pub charging : ℕ → ℕ → List ℕ → List ℕ
charging publisher n shelf =
    replaced (charge_place publisher) (digits 256 2 (charged publisher shelf + n)) shelf

-- the shelf after a new round began: both charges are zero
abbrev pub new_round : List ℕ → List ℕ
new_round shelf = replaced slots_bytes (replicate 4 0) shelf
