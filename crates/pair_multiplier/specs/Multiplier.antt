-- The multiplier used alone: its questions, and what it gives.
use Rattle.std.specs.Prelude.{ℕ, ◌≡◌, List, [], ◌∷◌, ◌++◌}
use Rattle.base.specs.Questions.{Question, ◌else◌, first_no, granted}
use Rattle.field.specs.Fields.{operations}
use Rattle.field.specs.declared.Field.{Field}
use Rattle.word.specs.Letters.{is_letter}
use Rattle.pair.specs.declared.Pair.{Pair}
use Rattle.pair.specs.Action.{letter_on}
use Rattle.pair.specs.PairQuestions.{pair_questions, zero_pair}

-- The multiplier alone: 17 for T-values and entries, then 4, 6, 12
abbrev pub multiplier_questions : Field → Pair → List ℕ → ℕ → List Question
multiplier_questions f p ts c = pair_questions f ts p [] ++ ((is_letter c else 12) ∷ [])

-- What the multiplier gives: the answer, and the pair with the letter multiplied in. On a refusal the pair is all
-- zeros.
pub record Multiplies (f : Field) (p : Pair) (ts : List ℕ) (c : ℕ) (answer : ℕ) (after : Pair) : Type 0 where
  pub answer_is : answer ≡ first_no (multiplier_questions f p ts c)
  pub pair_is : after ≡ granted (first_no (multiplier_questions f p ts c)) (letter_on (operations f) ts c p) zero_pair
