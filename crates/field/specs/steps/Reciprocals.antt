-- The table of reciprocals of a field of polynomials. A function that works in such a field receives it in parts: the
-- bits of an element, the polynomial and the table. `LentField` says that the parts belong to one field.
use Rattle.std.specs.Prelude.{ℕ, suc, ◌-◌, ◌%◌, ◌^◌, ◌≤◌, ◌≡◌, List, ◌∷◌, length, get_or}
use Rattle.base.specs.Lists.{values}
use Rattle.field.specs.Polynomial.{Degree, reciprocal_of}

-- the table of reciprocals, for the polynomials of degree below n, reduced by p: entry a - 1 is the reciprocal of a
abbrev pub reciprocals : ℕ → ℕ → List ℕ
reciprocals n p = values (λ k. reciprocal_of n p (suc k)) (2 ^ n - 1)

-- the reciprocal of a number, looked up in a lent table; 0 for zero. Only the low bits of the number count, as many as
-- an element has
abbrev pub looked_up : List ℕ → ℕ → ℕ
looked_up table a = get_or (0 ∷ table) (a % suc (length table)) 0

-- n is the number of bits of an element, at most eight. p is a polynomial of degree n. The table holds the reciprocals
pub record LentField (n p : ℕ) (table : List ℕ) : Type 0 where
  pub degree : Degree n p
  pub narrow : n ≤ 8
  pub reciprocals_are : table ≡ reciprocals n p
