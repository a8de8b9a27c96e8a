-- The text of an integer of 32 bits, by how far the integer is from 0.
use Prim.Native.Nat.{ℕ}
use mathlib.Core.Path.{◌≡◌, refl, sym, ap, ◌∙◌}
use mathlib.Core.Bool.{true, false, false≢true}
use mathlib.Core.List.{◌∷◌}
use native.Mathlib.Omega.{arith}
use borrow.Author.Tests.{leb-false}
use lib.IntN.{ℤ, pos, negsuc, nat_abs}
use lib.Signed.{le_z}
use mir.Syntax.{w32}
use mir.Val.{SFits, to_z, of_z}
use mir.Facts.{to_z-of_z}
use Rattle.text.specs.Decimal.{decimal, signed_text}

-- the integer as the code holds it
narrow_is : (z : ℤ) → SFits w32 z → to_z w32 (of_z w32 z) ≡ z
narrow_is z f = to_z-of_z f

-- the text of an integer by how far it is from 0
module _ (z : ℤ) (f : SFits w32 z) (size : ℕ) (s : size ≡ nat_abs (to_z w32 (of_z w32 z))) where
  size_is : nat_abs z ≡ size
  size_is = sym (s ∙ ap nat_abs (narrow_is z f))

  pub text_from_zero : le_z (pos 0) (to_z w32 (of_z w32 z)) ≡ true → signed_text z ≡ decimal size
  unfolding signed_text
  text_from_zero e = go z (rw (narrow_is z f) at e) ∙ ap decimal size_is
    where
      go : (z : ℤ) → le_z (pos 0) z ≡ true → signed_text z ≡ decimal (nat_abs z)
      go (pos n) e = refl
      go (negsuc n) e = absurd (false≢true e)

  pub text_below_zero : le_z (pos 0) (to_z w32 (of_z w32 z)) ≡ false → signed_text z ≡ 45 ∷ decimal size
  unfolding signed_text
  text_below_zero e = go z (rw (narrow_is z f) at e) ∙ ap (λ (n : ℕ). 45 ∷ decimal n) size_is
    where
      go : (z : ℤ) → le_z (pos 0) z ≡ false → signed_text z ≡ 45 ∷ decimal (nat_abs z)
      go (pos n) e = absurd (omega (arith, leb-false 0 n e))
      go (negsuc n) e = refl
