-- Sums, a row times a matrix, the identity matrix and the product of two matrices, over the operations of any field.
use Rattle.std.specs.Prelude.{ℕ, zero, suc, cond, List, eqb}
use Rattle.field.specs.Binary.{Operations}
use Rattle.matrix.specs.Layout.{entry, matrix_of}

-- f 0 + f 1 + .. + f (n - 1) over the field
unfoldable pub sum : Operations → (ℕ → ℕ) → ℕ → ℕ
sum F f zero = 0
sum F f (suc n) = F.add (sum F f n) (f n)

-- a row of n numbers times a matrix of n rows: the sum of the rows, each times its number
abbrev pub row_by : Operations → ℕ → (ℕ → ℕ) → (ℕ → ℕ → ℕ) → ℕ → ℕ
row_by F n row m c = sum F (λ k. F.mul (row k) (m k c)) n

-- the identity matrix, as a function of row and column
abbrev pub unit : ℕ → ℕ → ℕ
unit r c = cond (eqb r c) 1 0

unfoldable pub identity : List ℕ
identity = matrix_of unit

-- the product of two 8 by 8 matrices: each row of the first times the second
unfoldable pub matrix_product : Operations → List ℕ → List ℕ → List ℕ
matrix_product F a b = matrix_of (λ r. row_by F 8 (entry a r) (entry b))
