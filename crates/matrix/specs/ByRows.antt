-- Matrices held by rows, the first row first, and the plain change of layout between rows and columns. No contract
-- cites this file. `ChangeOfLayout` compares the operations by columns with the operations by rows that are defined
-- here.
use Rattle.std.specs.Prelude.{ℕ, ◌+◌, ◌*◌, ◌/◌, ◌%◌, Bool, List, get_or}
use Rattle.base.specs.Lists.{values}
use Rattle.field.specs.Binary.{Operations}
use Rattle.matrix.specs.Product.{row_by}
use Rattle.matrix.specs.Elimination.{invertible}

-- the plain change of layout, from rows to columns and from columns to rows: entry 8 c + r of one list is entry 8 r + c
-- of the other list
unfoldable pub turned : List ℕ → List ℕ
turned m = values (λ k. get_or m (8 * (k % 8) + k / 8) 0) 64

-- the entry in row r and column c
unfoldable pub entry_by_rows : List ℕ → ℕ → ℕ → ℕ
entry_by_rows m r c = get_or m (8 * r + c) 0

-- the matrix whose entry in row r and column c is f r c
unfoldable pub matrix_by_rows : (ℕ → ℕ → ℕ) → List ℕ
matrix_by_rows f = values (λ k. f (k / 8) (k % 8)) 64

-- the product of two matrices: each row of the first times the second
unfoldable pub product_by_rows : Operations → List ℕ → List ℕ → List ℕ
product_by_rows F a b = matrix_by_rows (λ r. row_by F 8 (entry_by_rows a r) (entry_by_rows b))

-- does elimination find that the matrix has an inverse?
unfoldable pub invertible_by_rows : Operations → List ℕ → Bool
invertible_by_rows F m = invertible F 8 (entry_by_rows m)
