-- Steps of filling a matrix with the entries that a key file holds of it, row by row. Only private contracts cite them.
use Rattle.std.specs.Prelude.{ℕ, ◌+◌, ◌*◌, ◌/◌, ◌%◌, ◌≤◌, ◌<◌, ◌≡◌, List, length, get_or}
use Rattle.matrix.specs.Layout.{entry}

-- entry k of the file, for k before the last
abbrev pub file_entry : List ℕ → ℕ → ℕ
file_entry m k = entry m (k / 8) (k % 8)

-- a matrix in which the first n entries are in their places, and zeros after them
pub record EntriesPlaced (es : List ℕ) (n : ℕ) (m : List ℕ) : Type 0 where
  pub size : length m ≡ 64
  pub placed : (k : ℕ) → k < n → file_entry m k ≡ get_or es k 0
  pub zeros : (k : ℕ) → n ≤ k → k < 64 → file_entry m k ≡ 0

-- Row r is put in a matrix: if the row is the entries of a file from 8 r on, and the entries before it were in their
-- places, then the entries up to the row's end are in their places.
abbrev pub RowPut : List ℕ → ℕ → List ℕ → List ℕ → Type 0
RowPut row r m after =
    (es : List ℕ) → ((c : ℕ) → c < 8 → get_or es (8 * r + c) 0 ≡ get_or row c 0) → EntriesPlaced es (8 * r) m
    → EntriesPlaced es (8 * (r + 1)) after
