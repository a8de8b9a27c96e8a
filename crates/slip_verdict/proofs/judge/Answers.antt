-- `slip_verdict::judge` meets its contract: each refusal is that of its question. If digest and word are accepted, the
-- target of key and digest and the matrix that the word reaches decide.
use mathlib.Core.Path.{◌≡◌, sym, ap, ◌∙◌}
use borrow.Author.Tests.{eqb-true, eqb-false}
use lib.ListN.{length}
use Rattle.base.specs.Questions.{first_no}
use Rattle.word.specs.Words.{codes, word_answer}
use Rattle.slip_digest.proofs.Encoded.{digest_fits}
use Rattle.slip_verdict.specs.declared.Half.{Half}
use Rattle.slip_verdict.specs.Verdict.{matrix_questions}
use Rattle.slip_verdict.specs.Halves.{half_of, signed_by}
use Rattle.slip_verdict.proofs.CopyLaws.{word_number, past_word}
use Rattle.slip_verdict.proofs.SlipLaws.{Goes, digest_8, past_digest}
use Rattle.slip_verdict.proofs.judge.Goals as goal

pub returns-then-not-is_digest : goal.returns-then-not-is_digest
returns-then-not-is_digest c =
    let key = c.args.held in
    let digest = c.args.digest.now in
    let word = c.args.word.now in
    sym (digest_8 key digest word
    (eqb-false (length digest) _ (sym c.is_digest.ensures ∙ c.if-not-is_digest.true)))

pub returns-then-read-ne0 : goal.returns-then-read-ne0
returns-then-read-ne0 c =
    let key = c.args.held in
    let digest = c.args.digest.now in
    let word = c.args.word.now in
    let digest_passed : Goes key digest =
    eqb-true (length digest) _ (sym c.is_digest.ensures ∙ c.if-not-is_digest.false) in
    let e = c.read_word-read.ensures.answer_is in
    e
    ∙ sym (past_digest key digest word digest_passed
    ∙ word_number (half_of key digest) word (λ z. c.if-read-ne0.true (e ∙ z)))

pub half_of-requires : goal.half_of-requires
half_of-requires c =
    let key = c.args.held in
    let digest = c.args.digest.now in
    let digest_passed : Goes key digest =
    eqb-true (length digest) _ (sym c.is_digest.ensures ∙ c.if-not-is_digest.false) in
    digest_fits key.field digest digest_passed

pub returns : goal.returns
returns c =
    let key = c.args.held in
    let digest = c.args.digest.now in
    let word = c.args.word.now in
    let digest_passed : Goes key digest =
    eqb-true (length digest) _ (sym c.is_digest.ensures ∙ c.if-not-is_digest.false) in
    let word_passed : word_answer word ≡ 0 =
    sym c.read_word-read.ensures.answer_is ∙ c.if-read-ne0.false in
    c.copy_answer.ensures
    ∙ ap (λ (h : Half). first_no (matrix_questions (signed_by h (codes word)) h.target)) c.half_of.ensures
    ∙ sym (past_digest key digest word digest_passed
    ∙ past_word (half_of key digest) word word_passed)

pub copy_answer-requires : goal.copy_answer-requires
copy_answer-requires c =
    let word = c.args.word.now in
    let word_passed : word_answer word ≡ 0 =
    sym c.read_word-read.ensures.answer_is ∙ c.if-read-ne0.false in
    word_passed
