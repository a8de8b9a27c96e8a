-- The multiplier over a lent pair: its answer, and the pair that the caller then has.
use Rattle.std.specs.Prelude.{ℕ, ◌≡◌, List}
use Rattle.base.specs.Questions.{first_no, granted}
use Rattle.field.specs.Fields.{operations}
use Rattle.field.specs.declared.Field.{Field}
use Rattle.pair.specs.declared.Pair.{Pair}
use Rattle.pair.specs.Action.{letter_on}
use Rattle.pair_multiplier.specs.Multiplier.{multiplier_questions}

-- The answer is the number of the first question answered no, or 0 if there is none. One letter changes the lent pair.
-- On a refusal the pair is unchanged.
pub record Lends (f : Field) (p : Pair) (ts : List ℕ) (c : ℕ) (answer : ℕ) (after : Pair) : Type 0 where
  pub answer_is : answer ≡ first_no (multiplier_questions f p ts c)
  pub pair_is : after ≡ granted (first_no (multiplier_questions f p ts c)) (letter_on (operations f) ts c p) p
