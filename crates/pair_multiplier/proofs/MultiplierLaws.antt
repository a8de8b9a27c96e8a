-- Laws of the multiplier: which question decides, and what it gives.
use Prim.Native.Nat.{ℕ}
use mathlib.Core.Path.{◌≡◌, sym, ◌∙◌}
use mathlib.Core.Bool.{true, false}
use mathlib.Core.List.{List, [], ◌∷◌}
use Rattle.base.specs.Questions.{Question, ◌else◌, first_no}
use Rattle.base.proofs.QuestionLaws.{passes, fails, all_passed, refused_there, granted_zero, granted_refused}
use Rattle.field.specs.Fields.{operations}
use Rattle.field.specs.declared.Field.{Field}
use Rattle.word.specs.Letters.{is_letter}
use Rattle.pair.specs.declared.Pair.{Pair}
use Rattle.pair.specs.Action.{letter_on}
use Rattle.pair.specs.PairQuestions.{pair_questions, zero_pair}
use Rattle.pair_multiplier.specs.Multiplier.{multiplier_questions, Multiplies}

module _ (f : Field) (p : Pair) (ts : List ℕ) (c : ℕ) where
  -- the last question
  abbrev last : List Question
  last = (is_letter c else 12) ∷ []

  -- Three cases: the T-values or the pair are refused; they pass, and the code is no letter; they pass, and the code is
  -- a letter.
  pub pair_refused : (first_no (pair_questions f ts p []) ≡ 0 → ⊥)
      → first_no (multiplier_questions f p ts c) ≡ first_no (pair_questions f ts p [])
  pair_refused h = refused_there (pair_questions f ts p []) last tt h

  pub letter_refused : first_no (pair_questions f ts p []) ≡ 0 → is_letter c ≡ false
      → first_no (multiplier_questions f p ts c) ≡ 12
  letter_refused z e = all_passed (pair_questions f ts p []) last tt z ∙ fails 12 [] e

  pub none_refused : first_no (pair_questions f ts p []) ≡ 0 → is_letter c ≡ true
      → first_no (multiplier_questions f p ts c) ≡ 0
  unfolding first_no
  none_refused z e = all_passed (pair_questions f ts p []) last tt z ∙ passes 12 [] e

  -- the multiplier's contract on answer 0
  pub multiplied : {after : Pair} → first_no (multiplier_questions f p ts c) ≡ 0 → after
      ≡ letter_on (operations f) ts c p
      → Multiplies f p ts c 0 after
  multiplied z e =
      record { answer_is = sym z; pair_is = e ∙ sym (granted_zero (letter_on (operations f) ts c p) zero_pair z) }

  -- the multiplier's contract on a refusal, as `Multiplied::refused` makes it
  pub refused : {answer : ℕ} {after : Pair} (n : ℕ) → (answer ≡ n) × (after ≡ zero_pair)
      → first_no (multiplier_questions f p ts c) ≡ n → (n ≡ 0 → ⊥)
      → Multiplies f p ts c answer after
  refused n r e h =
      record {
        answer_is = r.0 ∙ sym e;
        pair_is = r.1 ∙ sym (granted_refused (letter_on (operations f) ts c p) zero_pair (λ z. h (sym e ∙ z)));
      }
