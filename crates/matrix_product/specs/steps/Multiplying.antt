-- Steps of the product of two matrices by the logarithms of their entries. Only private contracts cite them.
use Rattle.std.specs.Prelude.{ℕ, ◌+◌, ◌*◌, ◌<◌, ◌≡◌, List, length, get_or}
use Rattle.field.specs.Binary.{Operations}
use Rattle.matrix.specs.Layout.{entry}
use Rattle.matrix.specs.Product.{sum}

-- the sum of any two of the n logarithms leads to a place in the table
abbrev pub Near : List ℕ → ℕ → List ℕ → Type 0
Near table n logs = (k : ℕ) → k < n → 256 + 2 * get_or logs k 0 < length table

-- one entry of a product: a row of one matrix times a column of another. The list a holds the logarithms of the first
-- matrix, in the layout of its entries. The list b holds the logarithms of the column
abbrev pub row_by_logarithms : Operations → List ℕ → List ℕ → List ℕ → ℕ → ℕ
row_by_logarithms F table a b row = sum F (λ k. get_or table (256 + (entry a row k + get_or b k 0)) 0) 8

-- above row r, one column holds g 0, g 1, ..; the other columns are unchanged
pub record ColumnFilled (g : ℕ → ℕ) (column r : ℕ) (m after : List ℕ) : Type 0 where
  pub size : length after ≡ 64
  pub there : (i : ℕ) → i < r → entry after i column ≡ g i
  pub elsewhere : (i c : ℕ) → i < 8 → c < 8 → (c ≡ column → ⊥) → entry after i c ≡ entry m i c
