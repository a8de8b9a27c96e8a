-- Laws of the code of a conversion: the letters that the table's runs give, 34, and the questions in order.
use Prim.Native.Nat.{ℕ, ◌≤◌, ◌<◌}
use mathlib.Core.Path.{◌≡◌, sym, ap, ◌∙◌}
use mathlib.Core.Bool.{Bool, true}
use mathlib.Core.List.{List, [], ◌∷◌, ◌++◌}
use native.Mathlib.Omega.{arith}
use borrow.Author.Tests.{le-leb, lt-leb, leb-true}
use lib.ListN.{length, take}
use Rattle.base.specs.Questions.{Question, ◌else◌, first_no}
use Rattle.base.specs.Packing.{Below}
use Rattle.base.proofs.QuestionLaws.{passes, fails, all_passed, both_passed, passed_answers, answers_passed}
use Rattle.word.specs.Words.{max_letters, codes, word_file, word_questions, word_answer}
use Rattle.word.specs.Words.{room_question, writer_questions, Wrote}
use Rattle.word.proofs.WordLaws.{letters_below}
use Rattle.word.proofs.WriteLaws.{wrote_refused, wrote_same, writable}
use Rattle.word_dialect.specs.Dialect.{are_parts, converted, long_question, dialect_questions}
use Rattle.word_dialect.specs.steps.Table.{HoldsRuns, laid, Convertible}
use Rattle.word_dialect.proofs.ConversionLaws.{converted_lettered}
use Rattle.word_dialect.proofs.TableLaws.{laid_converted}

-- ---- the writer of a converted word

module _ (way : Bool) (w parts out table : List ℕ) (g : Convertible w parts out)
    (h : HoldsRuns way parts 16 table) where
  pub codes_below : Below 16 w
  codes_below k = omega (arith, letters_below w g.lettered k)

  laid_is : laid table w ≡ converted way parts w
  laid_is = laid_converted way parts table w h g.lettered

  -- 34: over 10,000 letters
  pub too_long : {answer bytes : ℕ} (letters : ℕ) → letters ≡ length (laid table w) → max_letters < letters
      → (answer ≡ 34) × (bytes ≡ 0)
      → Wrote (long_question way w parts) (word_file (converted way parts w)) out out answer bytes
  too_long letters n l r =
      let long : max_letters < length (converted way parts w) = omega (arith, n, ap length laid_is) in
      wrote_refused _ _ out 34 r (fails 34 [] (lt-leb (length (converted way parts w)) max_letters long)) (omega arith)

  -- the writer of words writes the converted word
  pub written : {after : List ℕ} {answer bytes : ℕ} (row : List ℕ) (letters : ℕ) → letters ≡ length (laid table w)
      → letters ≤ max_letters → take (length (laid table w)) row ≡ laid table w
      → Wrote (writer_questions (length out) (take letters row)) (word_file (take letters row)) out after answer bytes
      → Wrote (long_question way w parts) (word_file (converted way parts w)) out after answer bytes
  written row letters n l e o =
      let same : take letters row ≡ converted way parts w = ap (λ (k : ℕ). take k row) n ∙ e ∙ laid_is in
      let short : length (converted way parts w) ≤ max_letters = omega (arith, n, ap length laid_is) in
      wrote_same
      (ap (λ (x : List ℕ). first_no (writer_questions (length out) x)) same
      ∙ writable (length out) (converted way parts w) g.room short
      (converted_lettered way parts g.parts_are w g.lettered)
      ∙ sym (passed_answers (long_question way w parts)
      (le-leb (length (converted way parts w)) max_letters short, tt)))
      (ap word_file same) o

-- ---- the questions in order

module _ (way : Bool) (room : ℕ) (word parts : List ℕ) where
  -- the questions after those of the word
  abbrev pub after_word : List Question
  after_word = (are_parts parts else 33) ∷ long_question way (codes word) parts

  pub past_room : 5002 ≤ room
      → first_no (dialect_questions way room word parts) ≡ first_no (word_questions word ++ after_word)
  past_room h = passes 15 (word_questions word ++ after_word) (le-leb 5002 room h)

  pub past_word : 5002 ≤ room → word_answer word ≡ 0 → first_no (dialect_questions way room word parts)
      ≡ first_no after_word
  unfolding word_answer
  past_word h z = past_room h ∙ all_passed (word_questions word) after_word tt z

  pub past_parts : 5002 ≤ room → word_answer word ≡ 0 → are_parts parts ≡ true
      → first_no (dialect_questions way room word parts) ≡ first_no (long_question way (codes word) parts)
  past_parts h z p = past_word h z ∙ passes 33 (long_question way (codes word) parts) p

  -- what answer 0 says
  pub accepted : first_no (dialect_questions way room word parts) ≡ 0
      → (word_answer word ≡ 0) × (are_parts parts ≡ true) × (length (converted way parts (codes word)) ≤ max_letters)
  unfolding word_answer
  accepted e =
      let r = both_passed (room_question room ∷ []) (word_questions word ++ after_word) tt e in
      let w = both_passed (word_questions word) after_word tt r.1 in
      let p = answers_passed after_word tt w.1 in
      (w.0, p.0, leb-true (length (converted way parts (codes word))) max_letters p.1.0)
