-- Laws of the exponent sum of two words in a row, of one letter, and of a letter and its inverse. The exponent sums of
-- two example words.
use Prim.Native.Nat.{ℕ, ◌+◌}
use mathlib.Core.Path.{◌≡◌, refl, sym, ap, ap₂, ◌∙◌}
use mathlib.Core.Bool.{Bool, true, false, cond, not, ◌&&◌}
use mathlib.Core.List.{List, [], ◌∷◌, ◌++◌}
use mathlib.Core.Logic.{⊎_elim}
use native.Mathlib.Omega.{arith}
use borrow.Author.Tests.{le-leb, lt-leb}
use lib.Dec.{leb}
use lib.IntN.{ℤ, pos, neg_ℤ, ◌+ℤ◌, ◌-ℤ◌, +ℤ_assoc, +ℤ_comm, neg_ℤ-+ℤ}
use Rattle.base.specs.Lists.{tally}
use Rattle.base.proofs.ListLaws.{tally_append}
use Rattle.word.specs.Letters.{is_letter, is_positive, is_inverse, inverse}
use Rattle.word.proofs.LetterLaws.{letter_cases, inverse_letter, inverse_sign}
use Rattle.word.specs.Exponent.{exponent_sum}

-- ---- differences

interchange : (m n k l : ℤ) → (m +ℤ n) +ℤ (k +ℤ l) ≡ (m +ℤ k) +ℤ (n +ℤ l)
interchange m n k l =
    +ℤ_assoc m n (k +ℤ l)
    ∙ ap (λ (x : ℤ). m +ℤ x) (sym (+ℤ_assoc n k l) ∙ ap (λ (x : ℤ). x +ℤ l) (+ℤ_comm n k) ∙ +ℤ_assoc k n l)
    ∙ sym (+ℤ_assoc m k (n +ℤ l))

-- the sum of two differences is the difference of two sums
pub differences_add : (a b c d : ℕ) → (pos a -ℤ pos b) +ℤ (pos c -ℤ pos d) ≡ pos (a + c) -ℤ pos (b + d)
differences_add a b c d =
    interchange (pos a) (neg_ℤ (pos b)) (pos c) (neg_ℤ (pos d))
    ∙ ap (λ (x : ℤ). pos (a + c) +ℤ x) (sym (neg_ℤ-+ℤ (pos b) (pos d)))

-- a letter is positive or inverse, and not both
positive_not_inverse : (c : ℕ) → is_letter c ≡ true → is_positive c ≡ not (is_inverse c)
positive_not_inverse c e =
    ⊎_elim (λ p. le-leb c 6 p ∙ sym (ap (λ (b : Bool). not (b && leb c 14)) (lt-leb 8 c (omega arith))))
    (λ p. lt-leb c 6 (omega arith) ∙ sym (ap₂ (λ (a b : Bool). not (a && b)) (le-leb 8 c p.0) (le-leb c 14 p.1)))
    (letter_cases c e)

-- ---- the exponent sum

-- the exponent sum of two words in a row is the sum of their exponent sums
pub exponent_append : (v w : List ℕ) → exponent_sum (v ++ w) ≡ exponent_sum v +ℤ exponent_sum w
unfolding exponent_sum
exponent_append v w =
    ap₂ (λ (m n : ℕ). pos m -ℤ pos n) (tally_append is_positive v w) (tally_append is_inverse v w)
    ∙ sym (differences_add (tally is_positive v) (tally is_inverse v) (tally is_positive w) (tally is_inverse w))

-- the exponent sum of one letter: plus 1 for a generator, minus 1 for an inverse
abbrev sign : Bool → ℤ
sign inverse = cond inverse (neg_ℤ (pos 1)) (pos 1)

one_letter : (c : ℕ) → is_letter c ≡ true → exponent_sum (c ∷ []) ≡ sign (is_inverse c)
unfolding tally exponent_sum
one_letter c e = rw (positive_not_inverse c e) (go (is_inverse c))
  where
    go : (b : Bool) → pos (cond (not b) 1 0) -ℤ pos (cond b 1 0) ≡ sign b
    go true = refl
    go false = refl

-- two letters of the same sign have the same exponent sum
pub same_sign : (c d : ℕ) → is_letter c ≡ true → is_letter d ≡ true → is_inverse c ≡ is_inverse d
    → exponent_sum (c ∷ []) ≡ exponent_sum (d ∷ [])
same_sign c d e e' s = one_letter c e ∙ ap sign s ∙ sym (one_letter d e')

-- the exponent sums of a letter and of its inverse add up to 0
pub opposite : (c : ℕ) → is_letter c ≡ true → exponent_sum (c ∷ []) +ℤ exponent_sum (inverse c ∷ []) ≡ pos 0
opposite c e = rw (one_letter c e, one_letter (inverse c) (inverse_letter c e), inverse_sign c e) (go (is_inverse c))
  where
    go : (b : Bool) → sign b +ℤ sign (not b) ≡ pos 0
    go true = refl
    go false = refl

-- ---- values of the exponent sum

-- b1 b6 b7 has three positive letters and no inverse letter: 3
pub positive_value : exponent_sum (0 ∷ 5 ∷ 6 ∷ []) ≡ pos 3
unfolding tally exponent_sum
positive_value = refl

-- b1⁻¹ b7⁻¹ b4 b2⁻¹ has one positive letter and three inverse letters: minus 2
pub value_below_zero : exponent_sum (8 ∷ 14 ∷ 3 ∷ 9 ∷ []) ≡ neg_ℤ (pos 2)
unfolding tally exponent_sum
value_below_zero = refl
