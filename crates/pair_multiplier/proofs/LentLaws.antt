-- From the multiplier by value to a lent pair: on answer 0 the pair has the letter multiplied in, and on a refusal the
-- pair is unchanged.
use Prim.Native.Nat.{ℕ}
use mathlib.Core.Path.{◌≡◌, sym, ◌∙◌}
use mathlib.Core.List.{List}
use Rattle.base.proofs.QuestionLaws.{granted_zero, granted_refused}
use Rattle.field.specs.Fields.{operations}
use Rattle.field.specs.declared.Field.{Field}
use Rattle.pair.specs.declared.Pair.{Pair}
use Rattle.pair.specs.Action.{letter_on}
use Rattle.pair.specs.PairQuestions.{zero_pair}
use Rattle.pair_multiplier.specs.Multiplier.{Multiplies}
use Rattle.pair_multiplier.specs.Lent.{Lends}

module _ {f : Field} {p : Pair} {ts : List ℕ} {c answer : ℕ} {after : Pair} (m : Multiplies f p ts c answer after) where
  -- a refusal, as `Stepped::refused` makes it: the lent pair
  pub kept : {number : ℕ} {same : Pair} → (number ≡ answer) × (same ≡ p) → (answer ≡ 0 → ⊥) → Lends f p ts c number same
  kept r n =
      record {
        answer_is = r.0 ∙ m.answer_is;
        pair_is = r.1 ∙ sym (granted_refused (letter_on (operations f) ts c p) p (λ z. n (m.answer_is ∙ z)));
      }

  -- answer 0: the pair that the multiplier gives
  pub changed : answer ≡ 0 → Lends f p ts c answer after
  changed z =
      let e = sym m.answer_is ∙ z in record {
        answer_is = m.answer_is;
        pair_is =
            m.pair_is ∙ granted_zero (letter_on (operations f) ts c p) zero_pair e
            ∙ sym (granted_zero (letter_on (operations f) ts c p) p e);
      }
