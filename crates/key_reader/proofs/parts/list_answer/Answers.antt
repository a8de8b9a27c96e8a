-- `key_reader::parts::list_answer` meets its contract: question 6, then question 7.
use Prim.Native.Nat.{ℕ}
use mathlib.Core.Path.{◌≡◌, sym, ap, ◌∙◌}
use mathlib.Core.List.{List, []}
use lib.ListN.{drop}
use Rattle.base.specs.Questions.{Question, first_no}
use Rattle.base.proofs.QuestionLaws.{passes, fails}
use Rattle.word.specs.Strands.{is_order}
use Rattle.key.specs.Keys.{key_labels, part_questions}
use Rattle.key_reader.proofs.parts.list_answer.Goals as goal

abbrev rest : ℕ → ℕ → List ℕ → List Question
rest k bits file = drop k (part_questions bits file)

pub returns-then-not-is_order : goal.returns-then-not-is_order
returns-then-not-is_order c =
    let test_6 : let a = c.args in
    is_order (key_labels a.bits a.file.now) ≡ c.is_order.result =
    sym (c.is_order.ensures ∙ ap (λ (ls : List ℕ). is_order ls) c.requires.2) in
    sym (fails 6 (rest 5 c.args.bits c.args.file.now) (test_6 ∙ c.if-not-is_order.true))

pub returns-then-not-filler_is_zero : goal.returns-then-not-filler_is_zero
returns-then-not-filler_is_zero c =
    let test_6 : let a = c.args in
    is_order (key_labels a.bits a.file.now) ≡ c.is_order.result =
    sym (c.is_order.ensures ∙ ap (λ (ls : List ℕ). is_order ls) c.requires.2) in
    let past_6 : first_no (rest 4 c.args.bits c.args.file.now) ≡ first_no (rest 5 c.args.bits c.args.file.now) =
    passes 6 (rest 5 c.args.bits c.args.file.now) (test_6 ∙ c.if-not-is_order.false) in
    sym (past_6 ∙ fails 7 [] (sym c.filler_is_zero.ensures ∙ c.if-not-filler_is_zero.true))

pub returns : goal.returns
unfolding first_no
returns c =
    let test_6 : let a = c.args in
    is_order (key_labels a.bits a.file.now) ≡ c.is_order.result =
    sym (c.is_order.ensures ∙ ap (λ (ls : List ℕ). is_order ls) c.requires.2) in
    let past_6 : first_no (rest 4 c.args.bits c.args.file.now) ≡ first_no (rest 5 c.args.bits c.args.file.now) =
    passes 6 (rest 5 c.args.bits c.args.file.now) (test_6 ∙ c.if-not-is_order.false) in
    sym (past_6 ∙ passes 7 [] (sym c.filler_is_zero.ensures ∙ c.if-not-filler_is_zero.false))
