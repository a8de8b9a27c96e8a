-- `handle_reducer::handle_reduce` meets its contract: a refusal for the output, the word or a step, or else the new
-- word's file.
use Prim.Native.Nat.{ℕ, ◌-◌, ◌≤◌}
use mathlib.Core.Path.{◌≡◌, sym, ap, ◌∙◌}
use mathlib.Core.List.{List, ◌++◌}
use native.Mathlib.Omega.{arith}
use borrow.Author.Tests.{lt-leb}
use lib.ListN.{length, take, drop}
use lib.Seq.{length-take-le}
use Rattle.base.proofs.QuestionLaws.{fails}
use Rattle.base.specs.Digits.{halves}
use Rattle.base.specs.Lists.{every, overlaid}
use Rattle.word.specs.Letters.{is_letter}
use Rattle.word.specs.Words.{Read, codes, word_questions, word_answer}
use Rattle.word.proofs.ReadLaws.{accepted_word, count_few}
use Rattle.word.proofs.UnpackedWord.{bytes_fit, unpacked}
use Rattle.braid_handles.specs.Handles.{step_questions}
use Rattle.handle_reducer.proofs.HandleAnswer.{word_before_32}
use Rattle.handle_reducer.proofs.CodeReducer.{took_refused, row_answer, took}
use Rattle.handle_reducer.proofs.handle_reduce.Goals as goal

-- a word that the reader accepts
word_ok : {word : List ℕ} {answer n : ℕ} → Read word answer n → answer ≡ 0 → word_answer word ≡ 0
word_ok r z = sym r.answer_is ∙ z

-- the codes that `unpack` leaves are the word's
codes_are : (word row₀ : List ℕ) {answer n : ℕ} {row : List ℕ} → Read word answer n → answer ≡ 0
    → row ≡ overlaid (halves (take (length word - 2) (drop 2 word))) row₀
    → take n row ≡ codes word
codes_are word row₀ {row = row} r z e = unpacked word r.count_is (word_ok r z) row₀ row e

pub returns-then-out-lt-MAX_BYTES : goal.returns-then-out-lt-MAX_BYTES
returns-then-out-lt-MAX_BYTES c =
    let a = c.args in
    took_refused a.word.now a.limit a.out.now 15 c.refused.ensures
    (fails 15 (word_questions a.word.now ++ step_questions a.limit (codes a.word.now))
    (lt-leb 5002 (length a.out.now) c.if-out-lt-MAX_BYTES.true))
    (omega arith)

pub returns-then-w-ne0 : goal.returns-then-w-ne0
returns-then-w-ne0 c =
    let a = c.args in
    let e = c.read_word-w.ensures.answer_is in
    took_refused a.word.now a.limit a.out.now _ c.refused-then-w-ne0.ensures
    (word_before_32 (length a.out.now) a.word.now a.limit c.if-out-lt-MAX_BYTES.false (λ z. c.if-w-ne0.true (e ∙ z))
    ∙ sym e)
    c.if-w-ne0.true

pub slice_bounds-unpack-count : goal.slice_bounds-unpack-count
slice_bounds-unpack-count c = (accepted_word c.args.word.now (word_ok c.read_word-w.ensures c.if-w-ne0.false)).long

pub slice_bounds-unpack-start : goal.slice_bounds-unpack-start
slice_bounds-unpack-start c = (accepted_word c.args.word.now (word_ok c.read_word-w.ensures c.if-w-ne0.false)).long

pub unpack-requires : goal.unpack-requires
unpack-requires c =
    let r = c.read_word-w.ensures in bytes_fit c.args.word.now r.count_is (word_ok r c.if-w-ne0.false)

pub reduce-last-requires : goal.reduce-last-requires
reduce-last-requires c =
    let w = c.args.word.now in
    let r = c.read_word-w.ensures in
    let ok = word_ok r c.if-w-ne0.false in
    record {
      few = count_few w ok _ r.count_is;
      room = omega (arith, c.unpack.auto.codes);
      lettered =
          ap (every is_letter) (codes_are w _ r c.if-w-ne0.false c.unpack.ensures) ∙ (accepted_word w ok).lettered;
    }

pub returns-then-last-ne0 : goal.returns-then-last-ne0
returns-then-last-ne0 c =
    let a = c.args in
    let w = a.word.now in
    let r = c.read_word-w.ensures in
    took_refused w a.limit a.out.now _ c.refused-then-last-ne0.ensures
    (row_answer w a.limit a.out.now c.if-out-lt-MAX_BYTES.false (word_ok r c.if-w-ne0.false)
    (codes_are w _ r c.if-w-ne0.false c.unpack.ensures) (rw c.from.ensures at c.reduce-last.ensures))
    c.if-last-ne0.true

pub slice_bounds-write_word-end : goal.slice_bounds-write_word-end
slice_bounds-write_word-end c =
    let h = c.reduce-last in
    sym (length-take-le h.result.letters h.new.codes (omega (arith, h.ensures.few, h.auto.codes, c.unpack.auto.codes)))

pub returns : goal.returns
returns c =
    let a = c.args in
    let w = a.word.now in
    let r = c.read_word-w.ensures in
    let h = c.reduce-last in
    let fits : h.result.letters ≤ length h.new.codes =
    omega (arith, h.ensures.few, h.auto.codes, c.unpack.auto.codes) in
    took w a.limit a.out.now c.if-out-lt-MAX_BYTES.false (word_ok r c.if-w-ne0.false)
    (codes_are w _ r c.if-w-ne0.false c.unpack.ensures)
    (rw c.from.ensures at h.ensures) c.if-last-ne0.false fits c.write_word-written.ensures
