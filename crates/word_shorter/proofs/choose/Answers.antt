-- `word_shorter::choose` meets its contract: the first file's refusal, then the second file's, or the number of the
-- shorter file if both are accepted.
use mathlib.Core.Path.{sym, ◌∙◌}
use native.Mathlib.Omega.{arith}
use Rattle.word_shorter.proofs.ShorterLaws.{first_refused, first_accepted, refused, first_chosen, second_chosen}
use Rattle.word_shorter.proofs.choose.Goals as goal

pub returns-then-first-ne0 : goal.returns-then-first-ne0
returns-then-first-ne0 c =
    let a = c.args.a.now in
    let b = c.args.b.now in
    let e = c.read_word-first.ensures.answer_is in
    let h = c.if-first-ne0.true in
    rw (c.refused.ensures.0, c.refused.ensures.1)
    (refused a b (first_refused a b (λ z. h (e ∙ z)) ∙ sym e) h)

pub returns-then-second-ne0 : goal.returns-then-second-ne0
returns-then-second-ne0 c =
    let a = c.args.a.now in
    let b = c.args.b.now in
    let first_passed = sym c.read_word-first.ensures.answer_is ∙ c.if-first-ne0.false in
    rw (c.refused-then-second-ne0.ensures.0, c.refused-then-second-ne0.ensures.1)
    (refused a b (first_accepted a b first_passed ∙ sym c.read_word-second.ensures.answer_is) c.if-second-ne0.true)

pub returns-then-a-b : goal.returns-then-a-b
returns-then-a-b c =
    let first_passed = sym c.read_word-first.ensures.answer_is ∙ c.if-first-ne0.false in
    let second_passed = sym c.read_word-second.ensures.answer_is ∙ c.if-second-ne0.false in
    first_chosen c.args.a.now c.args.b.now (first_accepted _ _ first_passed ∙ second_passed) c.if-a-b.true

pub returns-else-a-b : goal.returns-else-a-b
returns-else-a-b c =
    let first_passed = sym c.read_word-first.ensures.answer_is ∙ c.if-first-ne0.false in
    let second_passed = sym c.read_word-second.ensures.answer_is ∙ c.if-second-ne0.false in
    second_chosen c.args.a.now c.args.b.now (first_accepted _ _ first_passed ∙ second_passed) (omega arith)
