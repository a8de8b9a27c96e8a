-- `word_store::store` meets its contract: it asks the questions in order. If the word is accepted, its stored form is
-- written.
use Prim.Native.Nat.{ℕ}
use mathlib.Core.Path.{◌≡◌, refl, sym, ap, ◌∙◌}
use mathlib.Core.List.{List}
use native.Mathlib.Omega.{arith}
use borrow.Author.Tests.{le-leb, lt-leb, eqb-false}
use lib.Dec.{eqb}
use lib.ListN.{length, length-drop}
use Rattle.base.specs.Questions.{first_no}
use Rattle.base.specs.Lists.{every, overlaid}
use Rattle.base.proofs.QuestionLaws.{passes, fails}
use Rattle.word.specs.Letters.{is_letter}
use Rattle.word.specs.Words.{codes, word_questions, word_answer}
use Rattle.word.proofs.ReadLaws.{accepted_word, count_stated, count_few, part_codes, filler_there, part_is}
use Rattle.word.proofs.WriteLaws.{wrote_refused, wrote_done}
use Rattle.word_stored.specs.Stored.{stored_file, store_questions}
use Rattle.word_store.proofs.store.Goals as goal

pub returns-then-out-lt-MAX_STORED : goal.returns-then-out-lt-MAX_STORED
returns-then-out-lt-MAX_STORED c =
    let word : List ℕ =
    c.args.word.now in
    let room : ℕ =
    length c.args.out.now in
    wrote_refused _ _ c.args.out.now 15 c.refused.ensures
    (fails 15 (word_questions word) (lt-leb 5006 room c.if-out-lt-MAX_STORED.true)) (eqb-false 15 0 refl)

pub returns-then-answer-ne0 : goal.returns-then-answer-ne0
unfolding word_answer
returns-then-answer-ne0 c =
    let word : List ℕ =
    c.args.word.now in
    let room : ℕ =
    length c.args.out.now in
    let past_1 : first_no (store_questions room word) ≡ word_answer word =
    passes 15 (word_questions word) (le-leb 5006 room c.if-out-lt-MAX_STORED.false) in
    wrote_refused _ _ c.args.out.now c.read_word-w.result.answer c.refused-then-answer-ne0.ensures
    (past_1 ∙ sym c.read_word-w.ensures.answer_is) c.if-answer-ne0.true

pub slice_bounds-write_stored-count : goal.slice_bounds-write_stored-count
slice_bounds-write_stored-count c =
    let word : List ℕ =
    c.args.word.now in
    let accepted : word_answer word ≡ 0 =
    sym c.read_word-w.ensures.answer_is ∙ c.if-answer-ne0.false in
    (accepted_word word accepted).long

pub slice_bounds-write_stored-start : goal.slice_bounds-write_stored-start
slice_bounds-write_stored-start c =
    let word : List ℕ =
    c.args.word.now in
    let accepted : word_answer word ≡ 0 =
    sym c.read_word-w.ensures.answer_is ∙ c.if-answer-ne0.false in
    (accepted_word word accepted).long

pub write_stored-bytes-requires : goal.write_stored-bytes-requires
write_stored-bytes-requires c =
    let word : List ℕ =
    c.args.word.now in
    let accepted : word_answer word ≡ 0 =
    sym c.read_word-w.ensures.answer_is ∙ c.if-answer-ne0.false in
    let w = word in
    let e = accepted in
    let n = c.read_word-w.result.letters in
    let s = c.read_word-w.ensures.count_is in
    let a = accepted_word w e in (
      record {
        few = count_few w e n s;
        size = omega (arith, ap length (part_is w), length-drop 2 w, a.size, count_stated w e s);
        lettered = ap (every is_letter) (part_codes w e n s) ∙ a.lettered;
        filled = ap (every (λ h. eqb h 0)) (filler_there w (count_stated w e s)) ∙ a.filled;
      },
      c.if-out-lt-MAX_STORED.false,
    )

pub returns : goal.returns
unfolding word_answer
returns c =
    let word : List ℕ =
    c.args.word.now in
    let room : ℕ =
    length c.args.out.now in
    let past_1 : first_no (store_questions room word) ≡ word_answer word =
    passes 15 (word_questions word) (le-leb 5006 room c.if-out-lt-MAX_STORED.false) in
    let accepted : word_answer word ≡ 0 =
    sym c.read_word-w.ensures.answer_is ∙ c.if-answer-ne0.false in
    let w = word in
    let e = accepted in
    let cs = part_codes w e c.read_word-w.result.letters c.read_word-w.ensures.count_is in
    wrote_done _ (stored_file (codes w)) c.args.out.now (past_1 ∙ e)
    (c.write_stored-bytes.ensures.0 ∙ ap (λ (l : List ℕ). length (stored_file l)) cs)
    (c.write_stored-bytes.ensures.1 ∙ ap (λ (l : List ℕ). overlaid (stored_file l) c.args.out.now) cs)
