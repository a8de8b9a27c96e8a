-- Laws of the questions of crossings: the word's questions come first, and 27 after them. Then what the operations give
-- on each answer, for two labels and for all pairs.
use Prim.Native.Nat.{ℕ, ◌<◌}
use mathlib.Core.Path.{◌≡◌, sym, ◌∙◌}
use mathlib.Core.Bool.{Bool, true, false, not, ◌&&◌}
use mathlib.Core.List.{List, [], ◌∷◌}
use borrow.Author.Tests.{ltb-true, eqb-false, not-true}
use lib.Dec.{ltb, eqb}
use lib.IntN.{ℤ, pos}
use lib.ListN.{replicate}
use Rattle.base.specs.Questions.{◌else◌, first_no}
use Rattle.base.proofs.ListLaws.{and_left, and_right}
use Rattle.base.proofs.QuestionLaws.{passes, fails, all_passed, refused_there, granted_zero, granted_refused}
use Rattle.word.specs.Words.{codes, word_questions, word_answer}
use Rattle.word_crossing.specs.Crossings.{crossings, crossing_questions, Crosses, all_crossings, CrossesAll}

-- are the labels at most 7, and different?
abbrev pub two_labels : ℕ → ℕ → Bool
two_labels a b = ltb a 8 && ltb b 8 && not (eqb a b)

module _ (word : List ℕ) (a b : ℕ) where
  -- a refused word has its number, whatever the labels are
  pub word_before_27 : (word_answer word ≡ 0 → ⊥) → first_no (crossing_questions word a b) ≡ word_answer word
  unfolding word_answer
  word_before_27 h = refused_there (word_questions word) ((two_labels a b else 27) ∷ []) tt h

  -- for an accepted word the labels alone decide
  pub past_word : word_answer word ≡ 0 → first_no (crossing_questions word a b)
      ≡ first_no ((two_labels a b else 27) ∷ [])
  unfolding word_answer
  past_word e = all_passed (word_questions word) ((two_labels a b else 27) ∷ []) tt e

  pub labels_27 : word_answer word ≡ 0 → two_labels a b ≡ false → first_no (crossing_questions word a b) ≡ 27
  labels_27 e f = past_word e ∙ fails 27 [] f

  pub none_failed : word_answer word ≡ 0 → two_labels a b ≡ true → first_no (crossing_questions word a b) ≡ 0
  unfolding first_no
  none_failed e t = past_word e ∙ passes 27 [] t

  pub refused : {n : ℕ} → first_no (crossing_questions word a b) ≡ n → (n ≡ 0 → ⊥) → Crosses word a b n (pos 0)
  refused e h =
      record {
        answer_is = sym e;
        number_is = sym (granted_refused (crossings a b (codes word)) (pos 0) (λ z. h (sym e ∙ z)));
      }

  pub answered : {number : ℤ} → first_no (crossing_questions word a b) ≡ 0 → number ≡ crossings a b (codes word)
      → Crosses word a b 0 number
  answered e v = record { answer_is = sym e; number_is = v ∙ sym (granted_zero (crossings a b (codes word)) (pos 0) e) }

-- the operation that gives the numbers of all pairs
module _ (word : List ℕ) where
  pub all_refused : {answer : ℕ} {numbers : List ℤ} → answer ≡ word_answer word → (answer ≡ 0 → ⊥)
      → numbers ≡ replicate 28 (pos 0)
      → CrossesAll word answer numbers
  all_refused e h z =
      record {
        answer_is = e;
        numbers_are = z ∙ sym (granted_refused (all_crossings (codes word)) (replicate 28 (pos 0)) (λ w. h (e ∙ w)));
      }

  pub all_answered : {numbers : List ℤ} → word_answer word ≡ 0 → numbers ≡ all_crossings (codes word)
      → CrossesAll word 0 numbers
  all_answered e v =
      record {
        answer_is = sym e;
        numbers_are = v ∙ sym (granted_zero (all_crossings (codes word)) (replicate 28 (pos 0)) e);
      }

-- two labels that pass question 27 are below 8, and different
module _ (a b : ℕ) (t : two_labels a b ≡ true) where
  below : ltb a 8 && ltb b 8 ≡ true
  below = and_left _ (not (eqb a b)) t

  pub first_below : a < 8
  first_below = ltb-true a 8 (and_left (ltb a 8) (ltb b 8) below)

  pub second_below : b < 8
  second_below = ltb-true b 8 (and_right (ltb a 8) (ltb b 8) below)

  pub different : a ≡ b → ⊥
  different = eqb-false a b (not-true _ (and_right (ltb a 8 && ltb b 8) (not (eqb a b)) t))
