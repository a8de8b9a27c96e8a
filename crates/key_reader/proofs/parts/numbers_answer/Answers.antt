-- `key_reader::parts::numbers_answer` meets its contract: question 2, then question 3.
use Prim.Native.Nat.{ℕ, ◌^◌}
use mathlib.Core.Path.{◌≡◌, sym, ◌∙◌}
use mathlib.Core.List.{List, []}
use borrow.Author.Tests.{eq-eqb, ne_eqb}
use lib.ListN.{take, drop, get_or}
use Rattle.base.specs.Questions.{Question, first_no}
use Rattle.base.proofs.QuestionLaws.{passes, fails}
use Rattle.key.specs.Keys.{field_size, part_questions}
use Rattle.key_reader.proofs.parts.numbers_answer.Goals as goal

abbrev rest : ℕ → ℕ → List ℕ → List Question
rest k bits file = drop k (take 2 (part_questions bits file))

pub returns-then-strands-ne8 : goal.returns-then-strands-ne8
returns-then-strands-ne8 c =
    let file : List ℕ =
    c.args.file.now in
    sym (fails 2 (rest 1 c.args.bits file) (ne_eqb (get_or file 0 0) 8 c.if-strands-ne8.true))

pub returns-then-size-wanted : goal.returns-then-size-wanted
returns-then-size-wanted c =
    let file : List ℕ =
    c.args.file.now in
    let past_2 : first_no (rest 0 c.args.bits file) ≡ first_no (rest 1 c.args.bits file) =
    passes 2 (rest 1 c.args.bits file) (eq-eqb (get_or file 0 0) 8 c.if-strands-ne8.false) in
    sym
    (past_2
    ∙ fails 3 []
    (ne_eqb (field_size file) (2 ^ c.args.bits)
    (λ e. c.if-size-wanted.true (c.two_bytes-size.ensures.0 ∙ e ∙ sym c.power-wanted.ensures))))

pub returns : goal.returns
unfolding first_no
returns c =
    let file : List ℕ =
    c.args.file.now in
    let past_2 : first_no (rest 0 c.args.bits file) ≡ first_no (rest 1 c.args.bits file) =
    passes 2 (rest 1 c.args.bits file) (eq-eqb (get_or file 0 0) 8 c.if-strands-ne8.false) in
    sym
    (past_2
    ∙ passes 3 []
    (eq-eqb (field_size file) (2 ^ c.args.bits)
    (sym c.two_bytes-size.ensures.0 ∙ c.if-size-wanted.false ∙ c.power-wanted.ensures)))
