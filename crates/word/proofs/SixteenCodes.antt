-- Letters by the word: for every eight bytes, the sixteen codes that are taken from their number are the codes that
-- those bytes give singly, in order.
use Prim.Native.Nat.{ℕ, ◌+◌, ◌*◌, ◌/◌, ◌%◌, ◌≤◌}
use mathlib.Core.Path.{◌≡◌, refl, sym, ap, ◌∙◌}
use mathlib.Core.List.{List, [], ◌∷◌}
use native.Mathlib.Omega.{arith}
use lib.ListN.{length, drop, length-drop}
use lib.Seq.{length-take-le}
use Rattle.base.specs.Digits.{value, digits, part, halves}
use Rattle.base.specs.Packing.{Below}
use Rattle.base.proofs.DigitLaws.{digits_halves, length_halves}

pub sixteen_codes : (bytes : List ℕ) → length bytes ≡ 8 → Below 256 bytes
    → digits 16 16 (value 256 bytes) ≡ halves bytes
sixteen_codes bytes e b = ap (λ (n : ℕ). digits 16 (2 * n) (value 256 bytes)) (sym e) ∙ digits_halves bytes b

-- the sixteen codes of eight bytes, written out one by one
pub sixteen_singly : (a b c d e f g h : ℕ) → let bytes = a ∷ b ∷ c ∷ d ∷ e ∷ f ∷ g ∷ h ∷ [] in Below 256 bytes
    → digits 16 16 (value 256 bytes)
    ≡ a / 16 ∷ a % 16 ∷ b / 16 ∷ b % 16 ∷ c / 16 ∷ c % 16 ∷ d / 16 ∷ d % 16
    ∷ e / 16 ∷ e % 16 ∷ f / 16 ∷ f % 16 ∷ g / 16 ∷ g % 16 ∷ h / 16 ∷ h % 16 ∷ []
unfolding halves
sixteen_singly a b c d e f g h l = sixteen_codes (a ∷ b ∷ c ∷ d ∷ e ∷ f ∷ g ∷ h ∷ []) refl l

-- eight bytes from a place on give sixteen codes
pub length_sixteen : (bytes : List ℕ) (at : ℕ) → at + 8 ≤ length bytes → length (halves (part at 8 bytes)) ≡ 16
length_sixteen bytes at h =
    length_halves (part at 8 bytes)
    ∙ ap (λ (n : ℕ). 2 * n) (length-take-le 8 (drop at bytes) (omega (arith, length-drop at bytes)))
