-- `move_rewriter::list::list_answer` meets its contract: a step for each question.
use Prim.Native.Nat.{ℕ, ◌+◌, ◌*◌}
use mathlib.Core.Path.{◌≡◌, sym, ◌∙◌}
use mathlib.Core.List.{List, []}
use native.Mathlib.Omega.{arith}
use borrow.Author.Tests.{le-leb, lt-leb, eq-eqb, ne_eqb}
use lib.ListN.{length, drop}
use Rattle.base.specs.Questions.{Question, first_no}
use Rattle.base.proofs.QuestionLaws.{passes, fails}
use Rattle.move_kinds.specs.Rewriting.{move_count, list_questions}
use Rattle.move_rewriter.proofs.list.list_answer.Goals as goal

pub returns-then-moves-lt2 : goal.returns-then-moves-lt2
returns-then-moves-lt2 c =
    let asked : List Question =
    list_questions c.args.moves.now in
    sym (fails 18 (drop 1 asked) (lt-leb _ _ c.if-moves-lt2.true))

pub returns-then-count-gt4096 : goal.returns-then-count-gt4096
returns-then-count-gt4096 c =
    let asked : List Question =
    list_questions c.args.moves.now in
    let count : ℕ =
    move_count c.args.moves.now in
    let past_1 : first_no asked ≡ first_no (drop 1 asked) =
    passes 18 (drop 1 asked) (le-leb _ _ c.if-moves-lt2.false) in
    sym (past_1 ∙ fails 19 (drop 2 asked) (lt-leb count 4096 (omega arith)))

pub returns-then-moves-count : goal.returns-then-moves-count
unfolding first_no
returns-then-moves-count c =
    let asked : List Question =
    list_questions c.args.moves.now in
    let count : ℕ =
    move_count c.args.moves.now in
    let past_1 : first_no asked ≡ first_no (drop 1 asked) =
    passes 18 (drop 1 asked) (le-leb _ _ c.if-moves-lt2.false) in
    let past_2 : first_no asked ≡ first_no (drop 2 asked) =
    past_1 ∙ passes 19 (drop 2 asked) (le-leb count 4096 (omega arith)) in
    sym (past_2 ∙ passes 20 [] (eq-eqb (length c.args.moves.now) (2 + 3 * count) (omega arith)))

pub returns : goal.returns
returns c =
    let asked : List Question =
    list_questions c.args.moves.now in
    let count : ℕ =
    move_count c.args.moves.now in
    let past_1 : first_no asked ≡ first_no (drop 1 asked) =
    passes 18 (drop 1 asked) (le-leb _ _ c.if-moves-lt2.false) in
    let past_2 : first_no asked ≡ first_no (drop 2 asked) =
    past_1 ∙ passes 19 (drop 2 asked) (le-leb count 4096 (omega arith)) in
    sym (past_2
    ∙ fails 20 [] (ne_eqb _ _ (λ e. c.if-moves-count.false (rw c.two_bytes-count.ensures.0 e))))
