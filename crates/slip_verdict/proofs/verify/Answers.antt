-- `slip_verdict::verify` meets its contract: the key's refusal, or the verdict under the key that was read.
use mathlib.Core.Path.{◌≡◌, sym, ap, ◌∙◌}
use Rattle.base.specs.Questions.{first_no}
use Rattle.base.proofs.QuestionLaws.{granted_zero}
use Rattle.key.specs.declared.Key.{Key}
use Rattle.key.specs.Keys.{key_answer}
use Rattle.slip_verdict.specs.Verdict.{slip_questions}
use Rattle.slip_verdict.proofs.VerdictIff.{key_refused, past_key}
use Rattle.slip_verdict.proofs.verify.Goals as goal

pub returns-then-read-ne0 : goal.returns-then-read-ne0
returns-then-read-ne0 c =
    let key = c.args.key.now in
    let digest = c.args.digest.now in
    let word = c.args.word.now in
    let e = c.read_key-read.ensures.answer_is in
    e ∙ sym (key_refused key digest word (λ z. c.if-read-ne0.true (e ∙ z)))

pub returns : goal.returns
returns c =
    let key = c.args.key.now in
    let digest = c.args.digest.now in
    let word = c.args.word.now in
    let k : key_answer key ≡ 0 = sym c.read_key-read.ensures.answer_is ∙ c.if-read-ne0.false in
    c.judge.ensures
    ∙ ap (λ (q : Key). first_no (slip_questions q digest word))
    (c.read_key-read.ensures.key_is ∙ granted_zero _ _ k)
    ∙ sym (past_key key digest word k)
