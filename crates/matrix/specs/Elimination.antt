-- What an inverse of a matrix is, and elimination over a field, which decides whether a matrix has an inverse. Rows and
-- columns count from 0.
use Rattle.std.specs.Prelude.{ℕ, zero, suc, ◌≡◌, Bool, true, cond, not, ◌&&◌, List, eqb}
use Rattle.field.specs.Binary.{Operations}
use Rattle.matrix.specs.Layout.{Matrix}
use Rattle.matrix.specs.Product.{identity, matrix_product}

-- the last of the places 0 to n at which a column is not zero; 0 if there is none
unfoldable pub pivot : (ℕ → ℕ) → ℕ → ℕ
pivot column zero = 0
pivot column (suc n) = cond (eqb (column (suc n)) 0) (pivot column n) (suc n)

-- rows 0 to n without row p, as rows 0 to n - 1: row n takes the place of row p
unfoldable pub without : ℕ → ℕ → ℕ → ℕ
without n p i = cond (eqb i p) n i

-- rows 0 to n without row p. Each row gains the multiple of row p that makes its entry in column n zero
unfoldable pub cleared : Operations → ℕ → ℕ → (ℕ → ℕ → ℕ) → ℕ → ℕ → ℕ
cleared F n p m i j =
    F.add (m (without n p i) j) (F.mul (m (without n p i) n) (F.mul (F.inv (m p n)) (m p j)))

-- does elimination find a pivot in each column of an n by n matrix? It clears the last column first
unfoldable pub invertible : Operations → ℕ → (ℕ → ℕ → ℕ) → Bool
invertible F zero m = true
invertible F (suc n) m =
    let p = pivot (λ i. m i n) n in
    not (eqb (m p n) 0) && invertible F n (cleared F n p m)

-- b is an inverse of the 8 by 8 matrix m: b has 64 elements of the field, and b times m is the identity
pub record Inverse (F : Operations) (b m : List ℕ) : Type 0 where
  pub elements : Matrix F.size b
  pub gives_identity : matrix_product F b m ≡ identity

-- some matrix times this one is the identity
pub record HasInverse (F : Operations) (m : List ℕ) : Type 0 where
  pub inverse : List ℕ
  pub inverts : Inverse F inverse m
