-- `pair_multiplier::multiply` meets its contract: a refusal for T-values and pair, a refusal for the code, or the
-- letter multiplied in.
use Prim.Native.Nat.{ℕ, ◌^◌}
use mathlib.Core.Path.{sym, ap, ◌∙◌}
use mathlib.Core.List.{[]}
use native.Mathlib.Omega.{arith}
use Rattle.base.proofs.QuestionLaws.{answers_passed}
use Rattle.pair.specs.PairQuestions.{pair_questions}
use Rattle.pair_multiplier.proofs.MultiplierLaws.{pair_refused, letter_refused, none_refused, multiplied}
use Rattle.pair_multiplier.proofs.MultiplierLaws.{refused}
use Rattle.pair_multiplier.proofs.multiply.Goals as goal

pub pair_answer-refusal-requires : goal.pair_answer-refusal-requires
pair_answer-refusal-requires c =
    ap (λ (n : ℕ). 2 ^ n) (sym c.bits_of.ensures)

pub returns-then-refusal-ne0 : goal.returns-then-refusal-ne0
returns-then-refusal-ne0 c =
    let a = c.args in
    let e = c.pair_answer-refusal.ensures in
    refused a.f a.pair a.t_values.now a.letter _ c.refused.ensures
    (pair_refused a.f a.pair a.t_values.now a.letter (λ z. c.if-refusal-ne0.true (e ∙ z)) ∙ sym e) c.if-refusal-ne0.true

pub returns-then-not-is_letter : goal.returns-then-not-is_letter
returns-then-not-is_letter c =
    let a = c.args in
    let pair_passed = sym c.pair_answer-refusal.ensures ∙ c.if-refusal-ne0.false in
    refused a.f a.pair a.t_values.now a.letter 12 c.refused-then-not-is_letter.ensures
    (letter_refused a.f a.pair a.t_values.now a.letter pair_passed
    (sym c.is_letter.ensures ∙ c.if-not-is_letter.true))
    (omega arith)

pub after_letter-after-requires : goal.after_letter-after-requires
after_letter-after-requires c =
    let a = c.args in
    let pair_passed = sym c.pair_answer-refusal.ensures ∙ c.if-refusal-ne0.false in (
      (answers_passed (pair_questions a.f a.t_values.now a.pair []) tt pair_passed).1.1.0,
      sym c.is_letter.ensures ∙ c.if-not-is_letter.false,
    )

pub returns : goal.returns
returns c =
    let a = c.args in
    let pair_passed = sym c.pair_answer-refusal.ensures ∙ c.if-refusal-ne0.false in
    multiplied a.f a.pair a.t_values.now a.letter
    (none_refused a.f a.pair a.t_values.now a.letter pair_passed
    (sym c.is_letter.ensures ∙ c.if-not-is_letter.false))
    c.after_letter-after.ensures
