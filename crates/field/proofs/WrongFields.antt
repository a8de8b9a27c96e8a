-- The contracts shut out wrong operations of the larger field: the product reduced by x^8 + x^4 + x^3 + x + 1, the
-- answer 17 for an element over 31, and the smaller field's reciprocals. Each contract is assumed for bytes alone.
use Prim.Native.Nat.{ℕ, ◌<◌}
use mathlib.Core.Path.{◌≡◌, refl, sym, ◌∙◌}
use native.Mathlib.Omega.{arith}
use lib.Dec.{lit<}
use Rattle.base.specs.Questions.{first_no, granted}
use Rattle.field.specs.Polynomial.{times_x, horner, times}
use Rattle.field.specs.Fields.{operations}
use Rattle.field.specs.Elements.{product_questions, reciprocal_questions, Gives}
use Rattle.field.specs.declared.Field.TheVariants.{Gf32, Gf256}
use Rattle.field.proofs.Fields.{degree}
use Rattle.field.proofs.ReciprocalLaws.{reciprocal_unique}

module _ (answer value : ℕ → ℕ → ℕ)
    (right : (a b : ℕ) → a < 256 → b < 256
    → Gives (product_questions Gf256 a b) ((operations Gf256).mul a b) (answer a b) (value a b)) where
  -- 128 × 2 is x^8, which reduces to x^4 + x^3 + x^2 + 1 = 29. The other polynomial gives 27
  pub no_other_polynomial : value 128 2 ≡ 27 → ⊥
  unfolding first_no granted times_x horner times
  no_other_polynomial wrong =
      let e : ◌≡◌ {A = ℕ} 27 29 = sym wrong ∙ (right 128 2 (lit< tt) (lit< tt)).value_is in omega arith

  pub no_17_at_32 : answer 32 1 ≡ 17 → ⊥
  unfolding first_no
  no_17_at_32 wrong = let e : ◌≡◌ {A = ℕ} 17 0 = sym wrong ∙ (right 32 1 (lit< tt) (lit< tt)).answer_is in omega arith

module _ (answer value : ℕ → ℕ)
    (right : (a : ℕ) → a < 256
    → Gives (reciprocal_questions Gf256 a) ((operations Gf256).inv a) (answer a) (value a)) where
  -- the reciprocal of 2 is 142 in the larger field and 18 in the smaller
  pub no_small_reciprocals : value 2 ≡ (operations Gf32).inv 2 → ⊥
  unfolding first_no granted times_x horner times
  no_small_reciprocals wrong =
      let e : ◌≡◌ {A = ℕ} 18 142 =
      sym (wrong ∙ reciprocal_unique (degree Gf32) 2 18 (omega arith) refl) ∙ (right 2 (lit< tt)).value_is
      ∙ reciprocal_unique (degree Gf256) 2 142 (omega arith) refl in
      omega arith
