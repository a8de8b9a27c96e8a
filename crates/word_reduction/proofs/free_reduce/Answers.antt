-- `word_reduction::free_reduce` meets its contract: it asks the questions in order. If the word is accepted, the writer
-- of words writes the stack that `cancel` leaves.
use Prim.Native.Nat.{ℕ, ◌≤◌}
use mathlib.Core.Path.{◌≡◌, refl, sym, ap, ◌∙◌}
use mathlib.Core.List.{List}
use native.Mathlib.Omega.{arith}
use borrow.Author.Tests.{le-leb, lt-leb, eqb-false}
use lib.ListN.{length, take}
use lib.Seq.{length-take-le}
use Rattle.base.specs.Questions.{first_no}
use Rattle.base.specs.Lists.{every}
use Rattle.base.proofs.QuestionLaws.{passes, fails}
use Rattle.word.specs.Letters.{is_letter}
use Rattle.word.specs.Words.{codes, word_file, word_questions, word_answer, writer_questions}
use Rattle.word.specs.Reduction.{reduced}
use Rattle.word_reduction.specs.Reducer.{reducer_questions}
use Rattle.word.proofs.ReadLaws.{accepted_word, count_few, part_enough, part_codes}
use Rattle.word.proofs.WriteLaws.{wrote_refused, writable, wrote_same}
use Rattle.word_reduction.proofs.ReducerLaws.{reduced_few, reduced_letters}
use Rattle.word_reduction.proofs.free_reduce.Goals as goal

pub returns-then-out-lt-MAX_BYTES : goal.returns-then-out-lt-MAX_BYTES
returns-then-out-lt-MAX_BYTES c =
    let word : List ℕ =
    c.args.word.now in
    let room : ℕ =
    length c.args.out.now in
    wrote_refused _ _ c.args.out.now 15 c.refused.ensures
    (fails 15 (word_questions word) (lt-leb 5002 room c.if-out-lt-MAX_BYTES.true)) (eqb-false 15 0 refl)

pub returns-then-answer-ne0 : goal.returns-then-answer-ne0
unfolding word_answer
returns-then-answer-ne0 c =
    let word : List ℕ =
    c.args.word.now in
    let room : ℕ =
    length c.args.out.now in
    let past_1 : first_no (reducer_questions room word) ≡ word_answer word =
    passes 15 (word_questions word) (le-leb 5002 room c.if-out-lt-MAX_BYTES.false) in
    wrote_refused _ _ c.args.out.now c.read_word-w.result.answer c.refused-then-answer-ne0.ensures
    (past_1 ∙ sym c.read_word-w.ensures.answer_is) c.if-answer-ne0.true

pub slice_bounds-part-count : goal.slice_bounds-part-count
slice_bounds-part-count c =
    let word : List ℕ =
    c.args.word.now in
    let accepted : word_answer word ≡ 0 =
    sym c.read_word-w.ensures.answer_is ∙ c.if-answer-ne0.false in
    (accepted_word word accepted).long

pub cancel-n-requires : goal.cancel-n-requires
cancel-n-requires c =
    let word : List ℕ =
    c.args.word.now in
    let accepted : word_answer word ≡ 0 =
    sym c.read_word-w.ensures.answer_is ∙ c.if-answer-ne0.false in
    let w = word in
    let e = accepted in
    let n = c.read_word-w.result.letters in
    let s = c.read_word-w.ensures.count_is in
    (part_enough w e n s, count_few w e n s, ap (every is_letter) (part_codes w e n s) ∙ (accepted_word w e).lettered)

pub slice_bounds-stack-end : goal.slice_bounds-stack-end
slice_bounds-stack-end c =
    let word : List ℕ =
    c.args.word.now in
    let accepted : word_answer word ≡ 0 =
    sym c.read_word-w.ensures.answer_is ∙ c.if-answer-ne0.false in
    let stack_fits : c.cancel-n.result ≤ length c.cancel-n.new.stack =
    let few =
    count_few word accepted c.read_word-w.result.letters
    c.read_word-w.ensures.count_is in
    omega (arith, few, c.cancel-n.ensures.0, c.cancel-n.auto.stack) in
    stack_fits

pub slice_bounds-write_word-end : goal.slice_bounds-write_word-end
slice_bounds-write_word-end c =
    let word : List ℕ =
    c.args.word.now in
    let accepted : word_answer word ≡ 0 =
    sym c.read_word-w.ensures.answer_is ∙ c.if-answer-ne0.false in
    let stack_fits : c.cancel-n.result ≤ length c.cancel-n.new.stack =
    let few =
    count_few word accepted c.read_word-w.result.letters
    c.read_word-w.ensures.count_is in
    omega (arith, few, c.cancel-n.ensures.0, c.cancel-n.auto.stack) in
    let r = c.cancel-n in
    sym (length-take-le r.result r.new.stack stack_fits)

pub returns : goal.returns
unfolding word_answer
returns c =
    let word : List ℕ =
    c.args.word.now in
    let room : ℕ =
    length c.args.out.now in
    let past_1 : first_no (reducer_questions room word) ≡ word_answer word =
    passes 15 (word_questions word) (le-leb 5002 room c.if-out-lt-MAX_BYTES.false) in
    let accepted : word_answer word ≡ 0 =
    sym c.read_word-w.ensures.answer_is ∙ c.if-answer-ne0.false in
    let stack_reduced : take c.cancel-n.result c.cancel-n.new.stack ≡ reduced (codes word) =
    c.cancel-n.ensures.1
    ∙ ap reduced
    (part_codes word accepted c.read_word-w.result.letters
    c.read_word-w.ensures.count_is) in
    let e = accepted in
    wrote_same
    (ap (λ (l : List ℕ). first_no (writer_questions room l)) stack_reduced
    ∙ writable room (reduced (codes word)) c.if-out-lt-MAX_BYTES.false (reduced_few word e)
    (reduced_letters word e)
    ∙ sym (past_1 ∙ e))
    (ap word_file stack_reduced)
    c.write_word.ensures

pub slice_bounds-part-start : goal.slice_bounds-part-start
slice_bounds-part-start c = slice_bounds-part-count c
