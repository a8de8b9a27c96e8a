-- A column of a matrix is held in one number of 64 bits. The number has eight lanes of one byte each, and the lowest
-- lane holds the entry of the first row. Rows and columns count from 0.
use Rattle.std.specs.Prelude.{ℕ, zero, suc, ◌+◌, ◌*◌, ◌/◌, ◌%◌, ◌^◌, ◌<◌, ◌≡◌, List, length, get_or}
use Rattle.std.specs.Int.Bits.{bit_xor}
use Rattle.matrix.specs.Layout.{entry, matrix_of}

-- lane j of a number; in the number of a column it is the entry of row j
unfoldable pub lane : ℕ → ℕ → ℕ
lane j x = x / 256 ^ j % 256

-- the number with 1 in each of n lanes
unfoldable pub ones : ℕ → ℕ
ones zero = 0
ones (suc n) = ones n * 256 + 1

-- the sum, which is exclusive or, of the numbers c i for the bits i below n that are 1 in e
unfoldable pub chosen : (ℕ → ℕ) → ℕ → ℕ → ℕ
chosen c zero e = 0
chosen c (suc n) e = bit_xor (chosen c n e) (e / 2 ^ n % 2 * c n)

-- lane j of the number is f j, for each of the eight lanes
abbrev pub InLanes : ℕ → (ℕ → ℕ) → Type 0
InLanes x f = (j : ℕ) → j < 8 → lane j x ≡ f j

-- the lanes of a number have become the entries of one column; the other columns are unchanged
pub record Put (x column : ℕ) (m after : List ℕ) : Type 0 where
  pub size : length after ≡ 64
  pub there : InLanes x (λ j. entry after j column)
  pub elsewhere : (r c : ℕ) → r < 8 → c < 8 → (c ≡ column → ⊥) → entry after r c ≡ entry m r c

-- the matrix whose columns are the numbers at places 1 to 8. The number at place 0 is spare
unfoldable pub columns_matrix : List ℕ → List ℕ
columns_matrix cols = matrix_of (λ r c. lane r (get_or cols (c + 1) 0))
