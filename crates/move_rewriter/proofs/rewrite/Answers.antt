-- `move_rewriter::rewrite` meets its contract: a refusal for the output, the word, the list or the moves, or else the
-- new word's file.
use Prim.Native.Nat.{ℕ, ◌-◌, ◌≤◌}
use mathlib.Core.Path.{◌≡◌, sym, ap, ◌∙◌}
use mathlib.Core.List.{List, ◌++◌}
use native.Mathlib.Omega.{arith}
use borrow.Author.Tests.{lt-leb}
use lib.ListN.{length, take, drop}
use lib.Seq.{length-take-le}
use Rattle.base.specs.Digits.{halves}
use Rattle.base.specs.Lists.{overlaid}
use Rattle.base.specs.Questions.{first_no}
use Rattle.base.proofs.QuestionLaws.{fails, refused_there}
use Rattle.word.specs.Words.{Read, codes, word_questions, word_answer}
use Rattle.word.proofs.ReadLaws.{accepted_word, count_few}
use Rattle.word.proofs.UnpackedWord.{bytes_fit, unpacked}
use Rattle.word.proofs.WriteLaws.{wrote_refused}
use Rattle.move_kinds.specs.Rewriting.{steps, move_questions, list_questions, rewriter_questions}
use Rattle.move_kinds.specs.steps.Leaving.{moved, Leaves}
use Rattle.move_kinds.proofs.CodeList.{listed, leaves_as}
use Rattle.move_kinds.proofs.RewriterAnswer.{after_word, past_room, past_word}
use Rattle.move_rewriter.specs.Rewriter.{Rewrote}
use Rattle.move_rewriter.proofs.CodeRewrite.{rewriter_answer, rewrote}
use Rattle.move_rewriter.proofs.RewritingKeepsMeaning.{rewrote_whole}
use Rattle.move_rewriter.proofs.rewrite.Goals as goal

-- a word that the reader accepts
word_ok : {word : List ℕ} {answer n : ℕ} → Read word answer n → answer ≡ 0 → word_answer word ≡ 0
word_ok r z = sym r.answer_is ∙ z

-- a refusal leaves the output unchanged
refused : (word moves out : List ℕ) {answer bytes : ℕ} (n : ℕ) → (answer ≡ n) × (bytes ≡ 0)
    → first_no (rewriter_questions (length out) word moves) ≡ n → (n ≡ 0 → ⊥)
    → Rewrote word moves out out answer bytes
refused word moves out n r e h = rewrote_whole word moves (wrote_refused _ _ out n r e h)

pub returns-then-out-lt-MAX_BYTES : goal.returns-then-out-lt-MAX_BYTES
returns-then-out-lt-MAX_BYTES c =
    let a = c.args in
    refused a.word.now a.moves.now a.out.now 15 c.refused.ensures
    (fails 15 (word_questions a.word.now ++ after_word a.word.now a.moves.now)
    (lt-leb 5002 (length a.out.now) c.if-out-lt-MAX_BYTES.true))
    (omega arith)

pub returns-then-w-ne0 : goal.returns-then-w-ne0
unfolding word_answer
returns-then-w-ne0 c =
    let a = c.args in
    let word = a.word.now in
    let moves = a.moves.now in
    let e = c.read_word-w.ensures.answer_is in
    refused word moves a.out.now _ c.refused-then-w-ne0.ensures
    (past_room (length a.out.now) word moves c.if-out-lt-MAX_BYTES.false
    ∙ refused_there (word_questions word) (after_word word moves) tt (λ z. c.if-w-ne0.true (e ∙ z)) ∙ sym e)
    c.if-w-ne0.true

pub returns-then-listed-ne0 : goal.returns-then-listed-ne0
returns-then-listed-ne0 c =
    let a = c.args in
    let word = a.word.now in
    let moves = a.moves.now in
    let e = c.list_answer-listed.ensures in
    refused word moves a.out.now _ c.refused-then-listed-ne0.ensures
    (past_word (length a.out.now) word moves c.if-out-lt-MAX_BYTES.false
    (word_ok c.read_word-w.ensures c.if-w-ne0.false)
    ∙ refused_there (list_questions moves) (move_questions (steps moves) (codes word)) tt
    (λ z. c.if-listed-ne0.true (e ∙ z)) ∙ sym e)
    c.if-listed-ne0.true

pub slice_bounds-unpack-count : goal.slice_bounds-unpack-count
slice_bounds-unpack-count c = (accepted_word c.args.word.now (word_ok c.read_word-w.ensures c.if-w-ne0.false)).long

pub slice_bounds-unpack-start : goal.slice_bounds-unpack-start
slice_bounds-unpack-start c = (accepted_word c.args.word.now (word_ok c.read_word-w.ensures c.if-w-ne0.false)).long

pub unpack-requires : goal.unpack-requires
unpack-requires c =
    let r = c.read_word-w.ensures in bytes_fit c.args.word.now r.count_is (word_ok r c.if-w-ne0.false)

pub all_moves-last-requires : goal.all_moves-last-requires
all_moves-last-requires c =
    let a = c.args in
    let r = c.read_word-w.ensures in (
      record {
        short = count_few a.word.now (word_ok r c.if-w-ne0.false) _ r.count_is;
        room = c.unpack.auto.codes;
      },
      listed a.moves.now (sym c.list_answer-listed.ensures ∙ c.if-listed-ne0.false),
    )

-- what the moves leave of the codes that `unpack` leaves is what they leave of the word's codes
made : (word moves row₀ : List ℕ) {w n answer letters : ℕ} {row new : List ℕ} → Read word w n → word_answer word ≡ 0
    → row ≡ overlaid (halves (take (length word - 2) (drop 2 word))) row₀
    → Leaves (moved (steps moves) (take n row)) new answer letters
    → Leaves (moved (steps moves) (codes word)) new answer letters
made word moves row₀ {row = row} r ok e m =
    leaves_as (ap (moved (steps moves)) (unpacked word r.count_is ok row₀ row e)) m

pub returns-then-last-ne0 : goal.returns-then-last-ne0
returns-then-last-ne0 c =
    let a = c.args in
    let word = a.word.now in
    let moves = a.moves.now in
    let r = c.read_word-w.ensures in
    let ok = word_ok r c.if-w-ne0.false in
    refused word moves a.out.now _ c.refused-then-last-ne0.ensures
    (rewriter_answer word moves a.out.now c.if-out-lt-MAX_BYTES.false ok
    (sym c.list_answer-listed.ensures ∙ c.if-listed-ne0.false)
    ∙ sym (made word moves _ r ok c.unpack.ensures c.all_moves-last.ensures).answer_is)
    c.if-last-ne0.true

pub slice_bounds-write_word-end : goal.slice_bounds-write_word-end
slice_bounds-write_word-end c =
    let m = c.all_moves-last in
    sym (length-take-le m.result.letters m.new.codes m.ensures.letters_in)

pub returns : goal.returns
returns c =
    let a = c.args in
    let word = a.word.now in
    let moves = a.moves.now in
    let r = c.read_word-w.ensures in
    let ok = word_ok r c.if-w-ne0.false in
    let m = c.all_moves-last in
    let few : m.result.letters ≤ 10000 = omega (arith, m.ensures.letters_in, m.auto.codes, c.unpack.auto.codes) in
    rewrote_whole word moves
    (rewrote word moves a.out.now c.if-out-lt-MAX_BYTES.false ok
    (sym c.list_answer-listed.ensures ∙ c.if-listed-ne0.false) c.if-last-ne0.false few
    (made word moves _ r ok c.unpack.ensures m.ensures) c.write_word.ensures)
