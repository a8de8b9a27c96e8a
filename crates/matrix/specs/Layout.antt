-- The layout of an 8 by 8 matrix in one list of 64 numbers. No other file of definitions knows which entry stands
-- where. Exception: `ByRows` defines another layout, for comparison. Rows and columns count from 0; the papers count
-- from 1.
use Rattle.std.specs.Prelude.{ℕ, ◌+◌, ◌*◌, ◌/◌, ◌%◌, ◌<◌, ◌≡◌, List, length, get_or}
use Rattle.base.specs.Lists.{values}

-- the place of the entry in row r and column c: the columns stand one after another, the first one first
unfoldable pub place : ℕ → ℕ → ℕ
place r c = 8 * c + r

-- the row and the column of the entry at a place
unfoldable pub row_of : ℕ → ℕ
row_of k = k % 8

unfoldable pub column_of : ℕ → ℕ
column_of k = k / 8

-- the entry in row r and column c
unfoldable pub entry : List ℕ → ℕ → ℕ → ℕ
entry m r c = get_or m (place r c) 0

-- the matrix whose entry in row r and column c is f r c
unfoldable pub matrix_of : (ℕ → ℕ → ℕ) → List ℕ
matrix_of f = values (λ k. f (row_of k) (column_of k)) 64

-- a matrix: 64 numbers, each below n
pub record Matrix (n : ℕ) (m : List ℕ) : Type 0 where
  pub size : length m ≡ 64
  pub below : (k : ℕ) → get_or m k 0 < n
