-- The rewriter's answer: which questions are left after its first questions are passed, and what answer 0 says.
use Prim.Native.Nat.{ℕ, ◌≤◌}
use mathlib.Core.Path.{◌≡◌, ◌∙◌}
use mathlib.Core.List.{List, [], ◌∷◌, ◌++◌}
use borrow.Author.Tests.{le-leb}
use Rattle.base.specs.Questions.{Question, first_no}
use Rattle.base.proofs.QuestionLaws.{passes, all_passed, both_passed}
use Rattle.word.specs.Words.{codes, word_questions, word_answer, room_question}
use Rattle.move_kinds.specs.Rewriting.{steps, move_questions, list_questions, rewriter_questions}

-- what answer 0 says
pub record Accepted (word moves : List ℕ) : Type 0 where
  pub word_accepted : word_answer word ≡ 0
  pub list_accepted : first_no (list_questions moves) ≡ 0
  pub moves_accepted : first_no (move_questions (steps moves) (codes word)) ≡ 0

-- the questions after those of the word
abbrev pub after_word : List ℕ → List ℕ → List Question
after_word word moves = list_questions moves ++ move_questions (steps moves) (codes word)

module _ (room : ℕ) (word moves : List ℕ) where
  pub past_room : 5002 ≤ room
      → first_no (rewriter_questions room word moves) ≡ first_no (word_questions word ++ after_word word moves)
  past_room h = passes 15 (word_questions word ++ after_word word moves) (le-leb 5002 room h)

  pub past_word : 5002 ≤ room → word_answer word ≡ 0
      → first_no (rewriter_questions room word moves) ≡ first_no (after_word word moves)
  unfolding word_answer
  past_word h w = past_room h ∙ all_passed (word_questions word) (after_word word moves) tt w

  pub past_list : 5002 ≤ room → word_answer word ≡ 0 → first_no (list_questions moves) ≡ 0
      → first_no (rewriter_questions room word moves) ≡ first_no (move_questions (steps moves) (codes word))
  past_list h w l = past_word h w ∙ all_passed (list_questions moves) (move_questions (steps moves) (codes word)) tt l

  pub accepted : first_no (rewriter_questions room word moves) ≡ 0 → Accepted word moves
  unfolding word_answer
  accepted e =
      let r = both_passed (room_question room ∷ []) (word_questions word ++ after_word word moves) tt e in
      let w = both_passed (word_questions word) (after_word word moves) tt r.1 in
      let l = both_passed (list_questions moves) (move_questions (steps moves) (codes word)) tt w.1 in
      record { word_accepted = w.0; list_accepted = l.0; moves_accepted = l.1 }
