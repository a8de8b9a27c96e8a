-- The operation's answer: which questions are left after its first questions are passed, and what answer 0 says.
use Prim.Native.Nat.{ℕ, ◌≤◌}
use mathlib.Core.Path.{◌≡◌, ◌∙◌}
use mathlib.Core.List.{List, [], ◌∷◌, ◌++◌}
use borrow.Author.Tests.{le-leb}
use Rattle.base.specs.Questions.{first_no}
use Rattle.base.proofs.QuestionLaws.{passes, all_passed, refused_there, both_passed}
use Rattle.word.specs.Words.{codes, word_questions, word_answer, room_question}
use Rattle.braid_handles.specs.Handles.{step_questions}
use Rattle.braid_handles.proofs.Runs.{steps_answer}
use Rattle.handle_reducer.specs.Reducing.{handle_questions}

-- what answer 0 says
pub record Accepted (word : List ℕ) (limit : ℕ) : Type 0 where
  pub word_accepted : word_answer word ≡ 0
  pub steps_accepted : steps_answer limit (codes word) ≡ 0

module _ (room : ℕ) (word : List ℕ) (limit : ℕ) where
  past_room : 5002 ≤ room
      → first_no (handle_questions room word limit)
      ≡ first_no (word_questions word ++ step_questions limit (codes word))
  past_room h = passes 15 (word_questions word ++ step_questions limit (codes word)) (le-leb 5002 room h)

  pub past_word : 5002 ≤ room → word_answer word ≡ 0
      → first_no (handle_questions room word limit) ≡ steps_answer limit (codes word)
  unfolding word_answer
  past_word h w = past_room h ∙ all_passed (word_questions word) (step_questions limit (codes word)) tt w

  -- a refused word is refused with its own number, whatever the steps would do
  pub word_before_32 : 5002 ≤ room → (word_answer word ≡ 0 → ⊥)
      → first_no (handle_questions room word limit) ≡ word_answer word
  unfolding word_answer
  word_before_32 h w = past_room h ∙ refused_there (word_questions word) (step_questions limit (codes word)) tt w

  pub accepted : first_no (handle_questions room word limit) ≡ 0 → Accepted word limit
  unfolding word_answer
  accepted e =
      let r = both_passed (room_question room ∷ []) (word_questions word ++ step_questions limit (codes word)) tt e in
      let w = both_passed (word_questions word) (step_questions limit (codes word)) tt r.1 in
      record { word_accepted = w.0; steps_accepted = w.1 }
