-- The contracts shut out wrong programs: a word reader that says at the first letter that none is left, a word reader
-- that reads an odd word's last half byte as a letter, and a writer whose reported number of bytes is not that of the
-- word.
use Prim.Native.Nat.{ℕ, ◌<◌}
use mathlib.Core.Path.{◌≡◌, refl, sym, ap, ◌∙◌}
use mathlib.Core.Bool.{true, false, false≢true, true≢false}
use mathlib.Core.List.{List, [], ◌∷◌}
use borrow.Author.Tests.{lt-ltb}
use lib.Dec.{ltb}
use lib.ListN.{length}
use Rattle.base.specs.Questions.{Question, first_no, granted}
use Rattle.base.specs.Lists.{every}
use Rattle.base.specs.Digits.{value, digits, halves}
use Rattle.base.proofs.QuestionLaws.{granted_zero}
use Rattle.word.specs.Words.{codes, filler, word_answer, letters, packed, word_file, writer_questions, LetterAt}
use Rattle.word.specs.Words.{Wrote}

-- the word b1: 00 01 00
abbrev one : List ℕ
one = 0 ∷ 1 ∷ 0 ∷ []

one_letter : length (letters one) ≡ 1
unfolding letters word_answer codes filler first_no granted every value halves
one_letter = refl

-- a reader with none left at the first letter is wrong on the word b1
pub none_left_at_first : (code : ℕ) → LetterAt one 0 false code → ⊥
none_left_at_first code r = false≢true (r.left_is ∙ ap (ltb 0) one_letter)

-- a reader with none left at the first letter is wrong on every word that has a letter
pub none_left_at_any_first : (file : List ℕ) (code : ℕ) → 0 < length (letters file) → LetterAt file 0 false code → ⊥
none_left_at_any_first file code h r = false≢true (r.left_is ∙ lt-ltb 0 (length (letters file)) h)

-- a reader that reads the filler of the word b1 as one more letter is wrong
pub filler_as_letter : (code : ℕ) → LetterAt one 1 true code → ⊥
filler_as_letter code r = true≢false (r.left_is ∙ ap (ltb 1) one_letter)

-- a writer that answers 0 and reports another number of bytes than the file has is wrong
pub other_bytes : {questions : List Question} {file before after : List ℕ} {bytes : ℕ}
    → Wrote questions file before after 0 bytes
    → (bytes ≡ length file → ⊥) → ⊥
other_bytes {file = file} w h = h (w.bytes_is ∙ granted_zero (length file) 0 (sym w.answer_is))

-- given the one code 0 and an output of 5,002 bytes, a writer from codes that does not report 3 bytes is wrong
pub other_bytes_of_one : {before after : List ℕ} {answer bytes : ℕ}
    → Wrote (writer_questions 5002 (0 ∷ [])) (word_file (0 ∷ [])) before after answer bytes
    → (bytes ≡ 3 → ⊥) → ⊥
unfolding word_file packed digits first_no granted every
other_bytes_of_one w h = h w.bytes_is
