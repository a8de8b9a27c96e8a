-- `word_shortener::shorten_word` meets its contract: it asks the questions in order. If the word is accepted, the
-- writer of words writes the codes that `shorten_codes` leaves.
use Prim.Native.Nat.{ℕ, ◌-◌, ◌≤◌}
use mathlib.Core.Path.{◌≡◌, refl, sym, ap, ◌∙◌}
use mathlib.Core.List.{List}
use native.Mathlib.Omega.{arith}
use borrow.Author.Tests.{lt-leb}
use lib.ListN.{length, take, drop, length-take}
use lib.Seq.{length-take-le}
use Rattle.base.specs.Digits.{halves}
use Rattle.base.specs.Lists.{every, overlaid}
use Rattle.base.proofs.QuestionLaws.{fails}
use Rattle.word.specs.Letters.{is_letter}
use Rattle.word.specs.Words.{Read, codes, word_questions, word_answer}
use Rattle.word.proofs.ReadLaws.{accepted_word, count_few}
use Rattle.word.proofs.UnpackedWord.{bytes_fit, unpacked}
use Rattle.swap_cancel.proofs.SwapCancelLaws.{swapped_length}
use Rattle.word_shortener.specs.steps.Routes.{BothWays}
use Rattle.word_shortener.proofs.ShortenerLaws.{past_room, not_shortened, shortened}
use Rattle.word_shortener.proofs.shorten_word.Goals as goal

-- a word that the reader accepts
word_ok : {word : List ℕ} {answer n : ℕ} → Read word answer n → answer ≡ 0 → word_answer word ≡ 0
word_ok r z = sym r.answer_is ∙ z

-- the codes that `unpack` leaves are the word's
row_is : (word row₀ : List ℕ) {answer n : ℕ} {row : List ℕ} → Read word answer n → answer ≡ 0
    → row ≡ overlaid (halves (take (length word - 2) (drop 2 word))) row₀
    → take n row ≡ codes word
row_is word row₀ {row = row} r z e = unpacked word r.count_is (word_ok r z) row₀ row e

-- the shortened word is within its row
fits : (effort n r : ℕ) (row new : List ℕ) → BothWays effort (take n row) new r → n ≤ 10000 → length new ≡ 10000
    → r ≤ length new
fits effort n r row new b few ten =
    let fewer = swapped_length (take n row) in
    let part = length-take n row in
    omega (arith, b.laid.not_longer)

pub returns-then-out-lt-MAX_BYTES : goal.returns-then-out-lt-MAX_BYTES
returns-then-out-lt-MAX_BYTES c =
    let a = c.args in
    not_shortened a.word.now a.out.now 15 c.refused.ensures
    (fails 15 (word_questions a.word.now) (lt-leb 5002 (length a.out.now) c.if-out-lt-MAX_BYTES.true)) (omega arith)

pub returns-then-answer-ne0 : goal.returns-then-answer-ne0
returns-then-answer-ne0 c =
    let a = c.args in
    not_shortened a.word.now a.out.now c.read_word-w.result.answer c.refused-then-answer-ne0.ensures
    (past_room a.word.now a.out.now c.if-out-lt-MAX_BYTES.false ∙ sym c.read_word-w.ensures.answer_is)
    c.if-answer-ne0.true

pub slice_bounds-unpack-count : goal.slice_bounds-unpack-count
slice_bounds-unpack-count c =
    (accepted_word c.args.word.now (word_ok c.read_word-w.ensures c.if-answer-ne0.false)).long

pub slice_bounds-unpack-start : goal.slice_bounds-unpack-start
slice_bounds-unpack-start c =
    (accepted_word c.args.word.now (word_ok c.read_word-w.ensures c.if-answer-ne0.false)).long

pub unpack-requires : goal.unpack-requires
unpack-requires c =
    let r = c.read_word-w.ensures in bytes_fit c.args.word.now r.count_is (word_ok r c.if-answer-ne0.false)

pub shorten_codes-n-requires : goal.shorten_codes-n-requires
shorten_codes-n-requires c =
    let w = c.args.word.now in
    let r = c.read_word-w.ensures in
    let z = c.if-answer-ne0.false in
    let few = count_few w (word_ok r z) _ r.count_is in
    let ten = c.unpack.auto.codes in (
      few,
      omega (arith, few),
      omega arith,
      ap (every is_letter) (row_is w _ r z c.unpack.ensures) ∙ (accepted_word w (word_ok r z)).lettered,
      refl,
    )

pub slice_bounds-codes-end : goal.slice_bounds-codes-end
slice_bounds-codes-end c =
    let r = c.read_word-w.ensures in
    let s = c.shorten_codes-n in
    fits c.args.effort c.read_word-w.result.letters s.result c.unpack.new.codes s.new.codes s.ensures
    (count_few c.args.word.now (word_ok r c.if-answer-ne0.false) _ r.count_is) (s.auto.codes ∙ c.unpack.auto.codes)

pub slice_bounds-write_word-end : goal.slice_bounds-write_word-end
slice_bounds-write_word-end c =
    let r = c.read_word-w.ensures in
    let s = c.shorten_codes-n in
    sym (length-take-le s.result s.new.codes
    (fits c.args.effort c.read_word-w.result.letters s.result c.unpack.new.codes s.new.codes s.ensures
    (count_few c.args.word.now (word_ok r c.if-answer-ne0.false) _ r.count_is) (s.auto.codes ∙ c.unpack.auto.codes)))

pub returns : goal.returns
returns c =
    let a = c.args in
    let r = c.read_word-w.ensures in
    let z = c.if-answer-ne0.false in
    shortened a.word.now a.out.now c.if-out-lt-MAX_BYTES.false (word_ok r z)
    (row_is a.word.now _ r z c.unpack.ensures) c.shorten_codes-n.ensures c.write_word.ensures
