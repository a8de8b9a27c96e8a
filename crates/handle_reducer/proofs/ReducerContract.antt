-- An operation that takes handles out is a function from its inputs to what it gives and leaves. If it meets the
-- contract, its answer is that of the steps, and if no step is refused it leaves the file of the new word and says
-- whether a handle is left. With the limit 0 it writes the word as it was, and never answers 32. The contract holds it
-- only to inputs that are bytes.
use Prim.Native.Nat.{ℕ, ◌≤◌}
use mathlib.Core.Path.{◌≡◌, sym, ap, ◌∙◌}
use mathlib.Core.Bool.{Bool, false}
use mathlib.Core.List.{List}
use native.Mathlib.Omega.{arith}
use lib.ListN.{length, take}
use Rattle.base.specs.Questions.{first_no}
use Rattle.base.specs.Lists.{Bytes}
use Rattle.base.proofs.QuestionLaws.{granted_zero}
use Rattle.base.proofs.DigitLaws.{all_below}
use Rattle.word.specs.Words.{codes, word_answer, word_file}
use Rattle.word.proofs.ReadLaws.{letters_accepted}
use Rattle.word.proofs.RoundTrip.{word_file_letters, wrote_file}
use Rattle.braid_handles.specs.Handles.{has_handle, after_steps}
use Rattle.braid_handles.proofs.Runs.{steps_answer, no_steps}
use Rattle.handle_reducer.specs.Reducing.{handle_questions, TookHandles}
use Rattle.handle_reducer.proofs.HandleAnswer.{past_word}

-- what the operation gives and leaves
pub record Given : Type 0 where
  pub answer : ℕ
  pub bytes : ℕ
  pub left : Bool
  pub after : List ℕ

abbrev pub Reducer : Type 0
Reducer = (word : List ℕ) (limit : ℕ) (before : List ℕ) → Given

-- the file in the output's first bytes, as many as are reported
abbrev pub written : Given → List ℕ
written g = take g.bytes g.after

-- Inputs of bytes: an accepted word, a limit of two bytes, and an output with room for a word.
pub record Handed (word : List ℕ) (limit : ℕ) (before : List ℕ) : Type 0 where
  pub word_bytes : Bytes word
  pub output_bytes : Bytes before
  pub limit_fits : limit ≤ 65535
  pub room : 5002 ≤ length before
  pub word_accepted : word_answer word ≡ 0

abbrev pub Meets : Reducer → Type 0
Meets f =
    (word : List ℕ) (limit : ℕ) (before : List ℕ) → Handed word limit before
    → TookHandles word limit before (f word limit before).after (f word limit before).answer
    (f word limit before).bytes (f word limit before).left

module _ (f : Reducer) (meets : Meets f) {word : List ℕ} {limit : ℕ} {before : List ℕ} (h : Handed word limit before)
  where
    questions_are : first_no (handle_questions (length before) word limit) ≡ steps_answer limit (codes word)
    questions_are = past_word (length before) word limit h.room h.word_accepted

    -- the answer is that of the steps
    pub answer_of : (f word limit before).answer ≡ steps_answer limit (codes word)
    answer_of = (meets word limit before h).wrote.answer_is ∙ questions_are

    module _ (e : steps_answer limit (codes word) ≡ 0) where
      -- if no step is refused, the file is that of the new word, and `left` says whether it has a handle
      pub file_of : written (f word limit before) ≡ word_file (after_steps limit (codes word))
      file_of = wrote_file (meets word limit before h).wrote (questions_are ∙ e)

      pub left_of : (f word limit before).left ≡ has_handle (after_steps limit (codes word))
      left_of =
          (meets word limit before h).left_is
          ∙ granted_zero (has_handle (after_steps limit (codes word))) false (questions_are ∙ e)

-- with the limit 0 the answer is 0, and the word is written as it was
module _ (f : Reducer) (meets : Meets f) {word before : List ℕ} (h : Handed word 0 before) where
  pub zero_limit_answer : (f word 0 before).answer ≡ 0
  zero_limit_answer = answer_of f meets h ∙ (no_steps (codes word)).1

  pub zero_limit_copies : written (f word 0 before) ≡ word
  zero_limit_copies =
      file_of f meets h (no_steps (codes word)).1
      ∙ ap word_file ((no_steps (codes word)).0 ∙ sym (letters_accepted word h.word_accepted))
      ∙ word_file_letters word (λ k. all_below 256 word (omega arith) h.word_bytes k) h.word_accepted
