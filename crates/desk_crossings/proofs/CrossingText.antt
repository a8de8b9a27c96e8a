-- Laws of the text on a refusal and on success. Then: how many bytes of a word are enough to read, and that two words
-- in which every two labels cross equally often have the same text.
use Prim.Native.Nat.{ℕ, ◌<◌}
use mathlib.Core.Path.{◌≡◌, sym, ap, subst, ◌∙◌}
use mathlib.Core.Bool.{true, false}
use mathlib.Core.List.{List}
use lib.IntN.{ℤ}
use lib.ListN.{take, replicate}
use Rattle.base.specs.Lists.{overlaid}
use Rattle.base.proofs.QuestionLaws.{granted_zero, granted_refused}
use Rattle.text.specs.Texts.{TellsIn}
use Rattle.text.proofs.EnoughLaws.{enough_granted}
use Rattle.word.specs.Words.{codes, word_answer}
use Rattle.word_crossing.specs.Crossings.{crossings, all_pairs, all_crossings, CrossesAll}
use Rattle.word_crossing.proofs.PairLaws.{length_all, all_alike, numbers_within}
use Rattle.desk_line.specs.Desk.{answer_line}
use Rattle.desk_line.specs.declared.Got.{Got}
use Rattle.word.proofs.LongWords.{enough_of_word as enough-of-answer, whole_word}
use Rattle.desk_text.specs.Room.{text_size}
use Rattle.desk_crossings.specs.Lines.{lines_of, crossing_text, word_text, EnoughOfWord}
use Rattle.desk_crossings.specs.steps.Range.{Numbers}

-- ---- what is written

module _ (word : List ℕ) where
  refused_text : (word_answer word ≡ 0 → ⊥) → crossing_text word ≡ answer_line (word_answer word)
  unfolding crossing_text
  refused_text h = granted_refused (lines_of all_pairs (all_crossings (codes word))) (answer_line (word_answer word)) h

  accepted_text : word_answer word ≡ 0 → crossing_text word ≡ lines_of all_pairs (all_crossings (codes word))
  unfolding crossing_text
  accepted_text e = granted_zero (lines_of all_pairs (all_crossings (codes word))) (answer_line (word_answer word)) e

-- the numbers of an accepted word
given_numbers : {word : List ℕ} {answer : ℕ} {numbers : List ℤ} → CrossesAll word answer numbers → answer ≡ 0
    → numbers ≡ all_crossings (codes word)
given_numbers {word} all z = all.numbers_are ∙ granted_zero (all_crossings (codes word)) _ (sym all.answer_is ∙ z)

pub accepted_numbers : {word : List ℕ} {answer : ℕ} {numbers : List ℤ} → CrossesAll word answer numbers → answer ≡ 0
    → Numbers numbers
accepted_numbers {word} all z =
    rw (given_numbers all z)
    (record { size = length_all (codes word); small = numbers_within word (sym all.answer_is ∙ z) })

-- the text for the first bytes of a buffer, as the code reads them
module _ (got : Got) (input : List ℕ) {bytes : ℕ} {text : List ℕ} where
  pub text_not_read : got.read ≡ false → bytes ≡ 0 → text ≡ replicate text_size 0
      → TellsIn text_size (word_text got input) bytes text
  unfolding word_text overlaid
  text_not_read e b t = rw e (record { bytes_are = b; text_is = t })

  module _ {word : List ℕ} {answer : ℕ} {numbers : List ℤ} (r : got.read ≡ true) (e : word ≡ take got.bytes input)
      (all : CrossesAll word answer numbers) where
    as_read : {written : List ℕ} → written ≡ crossing_text word → TellsIn text_size written bytes text
        → TellsIn text_size (word_text got input) bytes text
    unfolding word_text
    as_read s t = rw r (subst (λ (l : List ℕ). TellsIn text_size l bytes text) (s ∙ ap crossing_text e) t)

    pub text_refused : (answer ≡ 0 → ⊥) → TellsIn text_size (answer_line answer) bytes text
        → TellsIn text_size (word_text got input) bytes text
    text_refused h t =
        as_read (ap answer_line all.answer_is ∙ sym (refused_text word (λ z. h (all.answer_is ∙ z)))) t

    pub text_accepted : answer ≡ 0 → TellsIn text_size (lines_of all_pairs numbers) bytes text
        → TellsIn text_size (word_text got input) bytes text
    text_accepted z t =
        as_read (ap (lines_of all_pairs) (given_numbers all z) ∙ sym (accepted_text word (sym all.answer_is ∙ z))) t

-- 5,003 bytes or more are enough to read
pub enough_of_word : (n : ℕ) → 5002 < n → EnoughOfWord n
unfolding crossing_text
enough_of_word n h =
    let answers = enough-of-answer n h in
    enough_granted word_answer (λ word. lines_of all_pairs (all_crossings (codes word)))
    (λ word. answer_line (word_answer word)) n answers (whole_word n h)
    (λ word. ap answer_line (answers word))

-- ---- words in which every two labels cross equally often have the same text

pub same_text : (word new : List ℕ) → word_answer word ≡ 0 → word_answer new ≡ 0
    → ((a b : ℕ) → crossings a b (codes new) ≡ crossings a b (codes word)) → crossing_text new ≡ crossing_text word
same_text word new a b s =
    accepted_text new b ∙ ap (lines_of all_pairs) (all_alike (codes word) (codes new) s) ∙ sym (accepted_text word a)
