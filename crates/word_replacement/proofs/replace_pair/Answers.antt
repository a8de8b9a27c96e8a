-- `word_replacement::replace_pair` meets its contract: it asks the questions in order, and the writer of the word
-- with the replaced pair asks the last one.
use Prim.Native.Nat.{ℕ, ◌+◌, ◌-◌}
use mathlib.Core.Path.{◌≡◌, sym, ap, ◌∙◌}
use mathlib.Core.List.{List, ◌++◌}
use native.Mathlib.Omega.{arith}
use borrow.Author.Tests.{lt-leb}
use lib.ListN.{length, take, drop}
use lib.Seq.{length-take-le}
use Rattle.base.specs.Questions.{first_no}
use Rattle.base.specs.Digits.{halves}
use Rattle.base.specs.Lists.{every, overlaid}
use Rattle.base.proofs.QuestionLaws.{fails, refused_there}
use Rattle.word.specs.Letters.{is_letter}
use Rattle.word.specs.Words.{Read, codes, word_file, word_questions, word_answer}
use Rattle.word.proofs.ReadLaws.{accepted_word, count_few, count_stated}
use Rattle.word.proofs.UnpackedWord.{bytes_fit, unpacked}
use Rattle.word.proofs.WriteLaws.{wrote_refused, wrote_same}
use Rattle.word_replacement.specs.Replacement.{pair_replaced, grown_question, replacement_questions, ReplacedPair}
use Rattle.word_replacement.proofs.ReplaceLaws.{after_word, past_room, past_place, no_pair}
use Rattle.word_replacement.proofs.ReplacementMeaning.{replaced_whole}
use Rattle.word_replacement.proofs.replace_pair.Goals as goal

-- a refusal leaves the output unchanged
refused : (word : List ℕ) (place : ℕ) (out : List ℕ) {answer bytes : ℕ} (n : ℕ) → (answer ≡ n) × (bytes ≡ 0)
    → first_no (replacement_questions (length out) word place) ≡ n → (n ≡ 0 → ⊥)
    → ReplacedPair word place out out answer bytes
refused word place out n r e h = replaced_whole word place (wrote_refused _ _ out n r e h)

-- a word that the reader accepts
word_ok : {word : List ℕ} {answer n : ℕ} → Read word answer n → answer ≡ 0 → word_answer word ≡ 0
word_ok r z = sym r.answer_is ∙ z

-- the number of letters
letters_are : (word : List ℕ) {answer n : ℕ} → Read word answer n → answer ≡ 0 → n ≡ length (codes word)
letters_are word r z =
    count_stated word (word_ok r z) r.count_is ∙ sym (accepted_word word (word_ok r z)).count

-- the codes that `unpack` leaves are the word's
codes_are : (word row₀ : List ℕ) {answer n : ℕ} {row : List ℕ} → Read word answer n → answer ≡ 0
    → row ≡ overlaid (halves (take (length word - 2) (drop 2 word))) row₀
    → take n row ≡ codes word
codes_are word row₀ {row = row} r z e = unpacked word r.count_is (word_ok r z) row₀ row e

pub returns-then-out-lt-MAX_BYTES : goal.returns-then-out-lt-MAX_BYTES
returns-then-out-lt-MAX_BYTES c =
    let a = c.args in
    refused a.word.now a.place a.out.now 15 c.refused.ensures
    (fails 15 (word_questions a.word.now ++ after_word (length a.out.now) a.word.now a.place)
    (lt-leb 5002 (length a.out.now) c.if-out-lt-MAX_BYTES.true))
    (omega arith)

pub returns-then-w-ne0 : goal.returns-then-w-ne0
unfolding word_answer
returns-then-w-ne0 c =
    let a = c.args in
    let word = a.word.now in
    let room = length a.out.now in
    let e = c.read_word-w.ensures.answer_is in
    refused word a.place a.out.now _ c.refused-then-w-ne0.ensures
    (past_room room word a.place c.if-out-lt-MAX_BYTES.false
    ∙ refused_there (word_questions word) (after_word room word a.place) tt (λ z. c.if-w-ne0.true (e ∙ z)) ∙ sym e)
    c.if-w-ne0.true

pub returns-then-n-lt2 : goal.returns-then-n-lt2
returns-then-n-lt2 c =
    let a = c.args in
    let r = c.read_word-w.ensures in
    let z = c.if-w-ne0.false in
    refused a.word.now a.place a.out.now 22 c.refused-then-n-lt2.ensures
    (no_pair (length a.out.now) a.word.now a.place c.if-out-lt-MAX_BYTES.false (word_ok r z)
    (omega (arith, letters_are a.word.now r z, c.if-n-lt2.true)))
    (omega arith)

pub returns-then-n-place : goal.returns-then-n-place
returns-then-n-place c =
    let a = c.args in
    let r = c.read_word-w.ensures in
    let z = c.if-w-ne0.false in
    refused a.word.now a.place a.out.now 22 c.refused-then-n-place.ensures
    (no_pair (length a.out.now) a.word.now a.place c.if-out-lt-MAX_BYTES.false (word_ok r z)
    (omega (arith, letters_are a.word.now r z, c.if-n-lt2.false, c.if-n-place.true)))
    (omega arith)

pub slice_bounds-unpack-count : goal.slice_bounds-unpack-count
slice_bounds-unpack-count c = (accepted_word c.args.word.now (word_ok c.read_word-w.ensures c.if-w-ne0.false)).long

pub slice_bounds-unpack-start : goal.slice_bounds-unpack-start
slice_bounds-unpack-start c = (accepted_word c.args.word.now (word_ok c.read_word-w.ensures c.if-w-ne0.false)).long

pub unpack-requires : goal.unpack-requires
unpack-requires c =
    let r = c.read_word-w.ensures in bytes_fit c.args.word.now r.count_is (word_ok r c.if-w-ne0.false)

pub slice_bounds-codes-end : goal.slice_bounds-codes-end
slice_bounds-codes-end c =
    let r = c.read_word-w.ensures in
    omega (arith, count_few c.args.word.now (word_ok r c.if-w-ne0.false) _ r.count_is, c.unpack.auto.codes)

pub slice_bounds-write_replaced-end : goal.slice_bounds-write_replaced-end
slice_bounds-write_replaced-end c =
    let r = c.read_word-w.ensures in
    sym (length-take-le c.read_word-w.result.letters c.unpack.new.codes
    (omega (arith, count_few c.args.word.now (word_ok r c.if-w-ne0.false) _ r.count_is, c.unpack.auto.codes)))

pub write_replaced-requires : goal.write_replaced-requires
write_replaced-requires c =
    let word = c.args.word.now in
    let r = c.read_word-w.ensures in
    let z = c.if-w-ne0.false in
    let w = accepted_word word (word_ok r z) in
    let same = codes_are word _ r z c.unpack.ensures in
    let size = ap length same in
    record {
      lettered = ap (every is_letter) same ∙ w.lettered;
      few = omega (arith, size, w.count, w.few);
      two = omega (arith, size, letters_are word r z, c.if-n-place.false, c.if-n-lt2.false);
      room = c.if-out-lt-MAX_BYTES.false;
    }

pub returns : goal.returns
returns c =
    let a = c.args in
    let word = a.word.now in
    let r = c.read_word-w.ensures in
    let z = c.if-w-ne0.false in
    let same = codes_are word _ r z c.unpack.ensures in
    replaced_whole word a.place
    (wrote_same
    (ap (λ (l : List ℕ). first_no (grown_question l a.place)) same
    ∙ sym (past_place (length a.out.now) word a.place c.if-out-lt-MAX_BYTES.false (word_ok r z)
    (omega (arith, letters_are word r z, c.if-n-place.false, c.if-n-lt2.false))))
    (ap (λ (l : List ℕ). word_file (pair_replaced a.place l)) same)
    c.write_replaced.ensures)
