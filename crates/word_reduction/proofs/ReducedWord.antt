-- What free reduction writes, by its contract. If it answers 0, the output's first bytes, as many as it reports, are an
-- accepted word. Cancellations lead from the input's letters to the letters of that word. No letter of that word has
-- its inverse right after it. Cancellations lead to no other such word.
use Prim.Native.Nat.{ℕ}
use mathlib.Core.Path.{◌≡◌, sym, ◌∙◌, subst₂}
use mathlib.Core.List.{List}
use lib.ListN.{take}
use Rattle.base.specs.Questions.{first_no}
use Rattle.base.proofs.QuestionLaws.{passes, answers_passed}
use Rattle.word.specs.Words.{codes, letters, word_file, word_questions, word_answer, Wrote}
use Rattle.word.specs.Cancellation.{Cancels}
use Rattle.word.specs.Reduction.{reduced, Irreducible}
use Rattle.word_reduction.specs.Reducer.{reducer_questions}
use Rattle.word.proofs.ReadLaws.{accepted_word, letters_accepted}
use Rattle.word.proofs.RoundTrip.{word_file_accepted, written_letters}
use Rattle.word.proofs.LetterLaws.{Lettered}
use Rattle.word.proofs.ReductionLaws.{reduced_irreducible}
use Rattle.word.proofs.CancellationLaws.{reduced_reached, reduced_unique}
use Rattle.word_reduction.proofs.ReducerLaws.{reduced_few, reduced_letters}

-- the file of an accepted word's reduced codes is accepted
reduced_accepted : (word : List ℕ) → word_answer word ≡ 0 → word_answer (word_file (reduced (codes word))) ≡ 0
reduced_accepted word e = word_file_accepted (reduced (codes word)) (reduced_few word e) (reduced_letters word e)

-- v is the free reduction of w
pub record ReducesTo (w v : List ℕ) : Type 0 where
  pub irreducible : Irreducible v
  pub reached : Cancels w v
  pub unique : (u : List ℕ) → Cancels w u → Irreducible u → u ≡ v

pub reduces : (w : List ℕ) → Lettered w → ReducesTo w (reduced w)
reduces w e =
    record {
      irreducible = reduced_irreducible w;
      reached = reduced_reached w;
      unique = λ u c i. reduced_unique e c i;
    }

-- what free reduction writes on answer 0
module _ (room : ℕ) (word before : List ℕ) {after : List ℕ} {answer bytes : ℕ}
    (w : Wrote (reducer_questions room word) (word_file (reduced (codes word))) before after answer bytes)
    (a : answer ≡ 0) where
  none_failed : first_no (reducer_questions room word) ≡ 0
  none_failed = sym w.answer_is ∙ a

  pub word_accepted : word_answer word ≡ 0
  unfolding word_answer
  word_accepted =
      sym (passes 15 (word_questions word) (answers_passed (reducer_questions room word) tt none_failed).0)
      ∙ none_failed

  written : (word_answer (take bytes after) ≡ 0) × (letters (take bytes after) ≡ reduced (codes word))
  written =
      written_letters (reduced (codes word)) (reduced_few word word_accepted) (reduced_letters word word_accepted)
      w none_failed

  -- the output's first bytes, as many as are reported, are an accepted word
  pub output_accepted : word_answer (take bytes after) ≡ 0
  output_accepted = written.0

  -- the letters of the output are the free reduction of the word's letters
  pub output_reduced : ReducesTo (letters word) (letters (take bytes after))
  output_reduced =
      subst₂ ReducesTo (sym (letters_accepted word word_accepted)) (sym written.1)
      (reduces (codes word) (accepted_word word word_accepted).lettered)
