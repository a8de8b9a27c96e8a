-- `word_crossing::crossings` meets its contract: the word's refusal, then 27, or the signed number of the two labels if
-- every question is passed.
use mathlib.Core.Path.{◌≡◌, sym, ◌∙◌}
use mathlib.Core.Bool.{true}
use native.Mathlib.Omega.{arith}
use mir.Syntax.{w32}
use mir.Facts.{to_z-of_z}
use Rattle.word.specs.Words.{word_answer}
use Rattle.word.proofs.ReadLaws.{accepted_word}
use Rattle.word_crossing.proofs.HalfLaws.{walks_ready, number_of}
use Rattle.word_crossing.proofs.CrossingAnswer.{two_labels, word_before_27, labels_27, none_failed, refused}
use Rattle.word_crossing.proofs.CrossingAnswer.{answered, first_below, second_below, different}
use Rattle.word_crossing.proofs.crossings.Goals as goal

pub returns-then-refused-ne0 : goal.returns-then-refused-ne0
returns-then-refused-ne0 c =
    let e = c.read_word-w.ensures.answer_is in
    let h = c.if-refused-ne0.true in
    rw (c.refused.ensures.0, c.refused.ensures.1)
    (refused c.args.word.now c.args.a c.args.b
    (word_before_27 c.args.word.now c.args.a c.args.b (λ z. h (e ∙ z)) ∙ sym e) h)

pub returns-then-not-two_labels : goal.returns-then-not-two_labels
returns-then-not-two_labels c =
    let word_passed : word_answer c.args.word.now ≡ 0 =
    sym c.read_word-w.ensures.answer_is ∙ c.if-refused-ne0.false in
    rw (c.refused-then-not-two_labels.ensures.0, c.refused-then-not-two_labels.ensures.1)
    (refused c.args.word.now c.args.a c.args.b
    (labels_27 c.args.word.now c.args.a c.args.b word_passed
    (sym c.two_labels.ensures ∙ c.if-not-two_labels.true))
    (omega arith))

pub number-number-requires : goal.number-number-requires
number-number-requires c =
    let labels_passed : two_labels c.args.a c.args.b ≡ true =
    sym c.two_labels.ensures ∙ c.if-not-two_labels.false in (
      walks_ready c.counted-walked.ensures,
      first_below c.args.a c.args.b labels_passed,
      second_below c.args.a c.args.b labels_passed,
    )

pub returns : goal.returns
returns c =
    let word_passed : word_answer c.args.word.now ≡ 0 =
    sym c.read_word-w.ensures.answer_is ∙ c.if-refused-ne0.false in
    let labels_passed : two_labels c.args.a c.args.b ≡ true =
    sym c.two_labels.ensures ∙ c.if-not-two_labels.false in
    let t = labels_passed in
    let z = word_passed in
    answered c.args.word.now c.args.a c.args.b (none_failed c.args.word.now c.args.a c.args.b z t)
    (to_z-of_z {w = w32} (record { sfits = c.number-number.type_inv })
    ∙ number_of c.args.a c.args.b (first_below c.args.a c.args.b t) (second_below c.args.a c.args.b t)
    (different c.args.a c.args.b t)
    (accepted_word c.args.word.now z).lettered c.counted-walked.ensures c.number-number.ensures)
