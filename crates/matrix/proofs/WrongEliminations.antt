-- The contract of `matrix_elimination::both_invertible` shuts out wrong tests of two matrices for inverses, in each of
-- the two fields and on matrices of 64 bytes: one that always says yes, one that always says no, one that tests the
-- first matrix alone, one that tests the second alone, and one that looks for the last column's pivot on the diagonal
-- alone.
use Prim.Native.Nat.{ℕ, ◌-◌}
use mathlib.Core.Path.{◌≡◌, refl, sym, ap₂, ◌∙◌}
use mathlib.Core.Bool.{Bool, true, false, ◌&&◌, false≢true}
use mathlib.Core.List.{List}
use lib.ListN.{replicate}
use Rattle.base.specs.Lists.{values_from}
use Rattle.field.specs.Fields.{operations}
use Rattle.field.specs.declared.Field.{Field}
use Rattle.field.proofs.Fields.{byte, binary}
use Rattle.matrix.specs.Layout.{place, row_of, column_of, entry, matrix_of, Matrix}
use Rattle.matrix.specs.Product.{identity}
use Rattle.matrix.specs.Elimination.{invertible}
use Rattle.matrix.proofs.ProductLaws.{identity_elements}
use Rattle.matrix.proofs.Invertible.{identity_invertible, permuted, permuted_elements, reversed_invertible}
use Rattle.matrix.proofs.Invertible.{zero_elements, zero_not_invertible}

abbrev Test : Type 0
Test = (a b : List ℕ) → Bool

-- two tests agree on all matrices of 64 bytes. The contract says nothing of other lists
abbrev Says : Test → Test → Type 0
Says test other = (a b : List ℕ) → Matrix 256 a → Matrix 256 b → test a b ≡ other a b

module _ (f : Field) where
  abbrev has_inverse : List ℕ → Bool
  has_inverse m = invertible (operations f) 8 (entry m)

  -- a matrix of elements is a matrix of bytes
  bytes : {m : List ℕ} → Matrix (operations f).size m → Matrix 256 m
  bytes e = record { size = e.size; below = λ k. byte f _ (e.below k) }

  -- three matrices tell the tests apart: the identity, the identity with its rows in reverse order, and the blank
  -- matrix
  abbrev turned_round : List ℕ
  turned_round = permuted (binary f) (λ r. 7 - r)

  one : Matrix 256 identity
  one = bytes (identity_elements (binary f))

  turned : Matrix 256 turned_round
  turned = bytes (permuted_elements (binary f) (λ r. 7 - r))

  blank : Matrix 256 (replicate 64 0)
  blank = bytes (zero_elements (binary f))

  module _ (test : Test) (right : Says test (λ a b. has_inverse a && has_inverse b)) where
    -- a right test says yes exactly if both matrices have an inverse
    says : {a b : List ℕ} {x y : Bool} → Matrix 256 a → Matrix 256 b → has_inverse a ≡ x → has_inverse b ≡ y
        → test a b ≡ x && y
    says ga gb ea eb = right _ _ ga gb ∙ ap₂ ◌&&◌ ea eb

    pub no_always_yes : Says test (λ a b. true) → ⊥
    no_always_yes wrong =
        let none = zero_not_invertible (binary f) in
        false≢true (sym (says blank blank none none) ∙ wrong _ _ blank blank)

    pub no_always_no : Says test (λ a b. false) → ⊥
    no_always_no wrong =
        let has = identity_invertible (binary f) in
        false≢true (sym (wrong _ _ one one) ∙ says one one has has)

    pub no_first_alone : Says test (λ a b. has_inverse a) → ⊥
    no_first_alone wrong =
        let has = identity_invertible (binary f) in
        false≢true (sym (says one blank has (zero_not_invertible (binary f))) ∙ wrong _ _ one blank ∙ has)

    pub no_second_alone : Says test (λ a b. has_inverse b) → ⊥
    no_second_alone wrong =
        let has = identity_invertible (binary f) in
        false≢true (sym (says blank one (zero_not_invertible (binary f)) has) ∙ wrong _ _ blank one ∙ has)

    -- a test that says no whenever the first matrix has 0 at the end of its diagonal is wrong: the identity with its
    -- rows in reverse order has an inverse
    pub no_diagonal_alone : ((a b : List ℕ) → Matrix 256 a → Matrix 256 b → entry a 7 7 ≡ 0 → test a b ≡ false) → ⊥
    unfolding place row_of column_of entry matrix_of values_from
    no_diagonal_alone wrong =
        false≢true
        (sym (wrong _ _ turned one refl)
        ∙ says turned one (reversed_invertible (binary f)) (identity_invertible (binary f)))
