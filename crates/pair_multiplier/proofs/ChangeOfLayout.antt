-- The multiplier by columns equals the multiplier by rows through the plain change of layout. Whatever meets its
-- contract gives the same answer in both layouts, and the pair that the letter makes by rows, with the layout changed.
use Prim.Native.Nat.{ℕ}
use mathlib.Core.Path.{◌≡◌, sym, ap, ap₂, ◌∙◌}
use mathlib.Core.Bool.{Bool, ◌&&◌}
use mathlib.Core.List.{List, [], ◌∷◌}
use lib.ListN.{length, drop}
use Rattle.base.specs.Questions.{◌else◌, first_no, granted}
use Rattle.base.specs.Lists.{values_from}
use Rattle.base.proofs.QuestionLaws.{granted_ap}
use Rattle.field.specs.Fields.{operations}
use Rattle.field.specs.Elements.{is_element}
use Rattle.field.specs.declared.Field.{Field}
use Rattle.matrix.specs.ByRows.{turned}
use Rattle.matrix.proofs.ChangeOfLayout.{every_turned}
use Rattle.pair_operands.specs.Operands.{elements}
use Rattle.pair.specs.declared.Pair.{Pair}
use Rattle.pair.specs.Action.{letter_on}
use Rattle.pair.specs.ByRows.{turned_pair, letter_by_rows}
use Rattle.pair.specs.PairQuestions.{zero_pair}
use Rattle.pair.proofs.ChangeOfLayout.{letter_turned}
use Rattle.pair_multiplier.specs.Multiplier.{multiplier_questions, Multiplies}
use Rattle.pair_multiplier.specs.Lent.{Lends}

-- The multiplier on the pair p: its answer, and the pair that it gives. `given_turned` covers any pair q that a refusal
-- gives.
module _ (f : Field) (p : Pair) (ts : List ℕ) (c : ℕ) (size : length p.matrix ≡ 64) where
  answer_turned : first_no (multiplier_questions f (turned_pair p) ts c) ≡ first_no (multiplier_questions f p ts c)
  unfolding turned_pair
  answer_turned =
      ap (λ (b : Bool). first_no
      ((elements f ts && b && elements f [] else 17) ∷ drop 1 (multiplier_questions f p ts c)))
      (every_turned (is_element f) p.matrix size)

  given_turned : (q : Pair)
      → granted (first_no (multiplier_questions f (turned_pair p) ts c))
      (letter_on (operations f) ts c (turned_pair p)) (turned_pair q)
      ≡ turned_pair (granted (first_no (multiplier_questions f p ts c)) (letter_by_rows (operations f) ts c p) q)
  given_turned q =
      ap₂ (λ (n : ℕ) (r : Pair). granted n r (turned_pair q)) answer_turned (letter_turned (operations f) ts c p)
      ∙ sym (granted_ap turned_pair (first_no (multiplier_questions f p ts c)) (letter_by_rows (operations f) ts c p) q)

  -- the multiplier by value, whose refusal gives zeros
  pub multiplier_answer_turned : {answer : ℕ} {after : Pair} → Multiplies f (turned_pair p) ts c answer after
      → answer ≡ first_no (multiplier_questions f p ts c)
  multiplier_answer_turned m = m.answer_is ∙ answer_turned

  pub multiplier_turned : {answer : ℕ} {after : Pair} → Multiplies f (turned_pair p) ts c answer after
      → after ≡ turned_pair
      (granted (first_no (multiplier_questions f p ts c)) (letter_by_rows (operations f) ts c p) zero_pair)
  unfolding zero_pair turned turned_pair values_from
  multiplier_turned m = m.pair_is ∙ given_turned zero_pair

-- The lent multiplier. On a refusal it leaves the pair unchanged.
module _ (f : Field) (p : Pair) (ts : List ℕ) (c : ℕ) (size : length p.matrix ≡ 64) {answer : ℕ} {after : Pair}
    (lends : Lends f (turned_pair p) ts c answer after) where
  pub lent_answer_turned : answer ≡ first_no (multiplier_questions f p ts c)
  lent_answer_turned = lends.answer_is ∙ answer_turned f p ts c size

  pub lent_turned : after
      ≡ turned_pair (granted (first_no (multiplier_questions f p ts c)) (letter_by_rows (operations f) ts c p) p)
  lent_turned = lends.pair_is ∙ given_turned f p ts c size p
