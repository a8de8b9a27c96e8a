-- `slip_cloaking::cloaks` meets its contract: each refusal is that of its question. If all questions are passed, the
-- pairs are compared.
use mathlib.Core.Path.{◌≡◌, sym, ap, ◌∙◌}
use mathlib.Core.Bool.{true}
use native.Mathlib.Omega.{arith}
use borrow.Author.Tests.{eqb-true}
use lib.ListN.{length}
use Rattle.base.specs.Questions.{first_no}
use Rattle.base.proofs.ListLaws.{and_left}
use Rattle.base.proofs.QuestionLaws.{granted_zero}
use Rattle.field.specs.Fields.{operations}
use Rattle.field.specs.declared.Field.{Field}
use Rattle.word.specs.Words.{codes, word_answer}
use Rattle.key.specs.declared.Key.{Key}
use Rattle.key.specs.Keys.{key_answer, key_of}
use Rattle.key.proofs.KeyFacts.{key_field_lem}
use Rattle.slip_cloaking.specs.Cloaking.{does_come_back, is_list, cloak_questions}
use Rattle.slip_cloaking.proofs.CloakLaws.{key_refused, list_refused, past_list, refused, answered}
use Rattle.slip_cloaking.proofs.cloaks.Goals as goal

pub returns-then-read-ne0 : goal.returns-then-read-ne0
returns-then-read-ne0 c =
    let key = c.args.key.now in
    let word = c.args.word.now in
    let labels = c.args.labels.now in
    let e = c.read_key-read.ensures.answer_is in
    refused key labels word _ c.refused.ensures
    (key_refused key labels word (λ z. c.if-read-ne0.true (e ∙ z)) ∙ sym e) c.if-read-ne0.true

pub returns-then-not-is_list : goal.returns-then-not-is_list
returns-then-not-is_list c =
    let key = c.args.key.now in
    let word = c.args.word.now in
    let labels = c.args.labels.now in
    let key_passed : key_answer key ≡ 0 =
    sym c.read_key-read.ensures.answer_is ∙ c.if-read-ne0.false in
    refused key labels word 25 c.refused-then-not-is_list.ensures
    (list_refused key labels word key_passed
    (sym c.is_list.ensures ∙ c.if-not-is_list.true))
    (omega arith)

pub returns-then-found-ne0 : goal.returns-then-found-ne0
returns-then-found-ne0 c =
    let key = c.args.key.now in
    let word = c.args.word.now in
    let labels = c.args.labels.now in
    let key_passed : key_answer key ≡ 0 =
    sym c.read_key-read.ensures.answer_is ∙ c.if-read-ne0.false in
    let list_passed : is_list labels ≡ true =
    sym c.is_list.ensures ∙ c.if-not-is_list.false in
    let past_2 : first_no (cloak_questions key labels word) ≡ word_answer word =
    past_list key labels word key_passed list_passed in
    refused key labels word _ c.refused-then-found-ne0.ensures
    (past_2 ∙ sym c.read_word-found.ensures.answer_is) c.if-found-ne0.true

pub comes_back-requires : goal.comes_back-requires
comes_back-requires c =
    let word = c.args.word.now in
    let labels = c.args.labels.now in
    let list_passed : is_list labels ≡ true =
    sym c.is_list.ensures ∙ c.if-not-is_list.false in
    let word_passed : word_answer word ≡ 0 =
    sym c.read_word-found.ensures.answer_is ∙ c.if-found-ne0.false in
    (eqb-true (length labels) 8 (and_left _ _ list_passed), word_passed)

pub returns : goal.returns
returns c =
    let key = c.args.key.now in
    let word = c.args.word.now in
    let labels = c.args.labels.now in
    let key_passed : key_answer key ≡ 0 =
    sym c.read_key-read.ensures.answer_is ∙ c.if-read-ne0.false in
    let list_passed : is_list labels ≡ true =
    sym c.is_list.ensures ∙ c.if-not-is_list.false in
    let word_passed : word_answer word ≡ 0 =
    sym c.read_word-found.ensures.answer_is ∙ c.if-found-ne0.false in
    let past_2 : first_no (cloak_questions key labels word) ≡ word_answer word =
    past_list key labels word key_passed list_passed in
    let key_is = c.read_key-read.ensures.key_is ∙ granted_zero _ _ key_passed in
    answered key labels word (past_2 ∙ word_passed)
    (c.comes_back.ensures
    ∙ ap (λ (q : Key). does_come_back (operations q.field) q.t_values labels (codes word)) key_is
    ∙ ap (λ (f : Field). does_come_back (operations f) (key_of key).t_values labels (codes word))
    (key_field_lem key))
