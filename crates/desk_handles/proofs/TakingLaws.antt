-- Laws of the verb that takes handles out: what is made if the file could not be read and if it could; and that 5,003
-- bytes of a word are enough to read.
use Prim.Native.Nat.{ℕ, ◌<◌}
use native.Mathlib.Omega.{arith}
use mathlib.Core.Path.{◌≡◌, refl, sym, ap, ◌∙◌}
use mathlib.Core.Bool.{Bool, true, false}
use mathlib.Core.List.{List, [], ◌++◌}
use lib.ListN.{take, replicate}
use Rattle.base.specs.Questions.{first_no, granted}
use Rattle.base.proofs.QuestionLaws.{passes, in_a_row, both_passed}
use Rattle.text.specs.Enough.{Enough}
use Rattle.text.proofs.EnoughLaws.{Whole, enough_granted}
use Rattle.word.specs.Words.{codes, word_questions, word_answer}
use Rattle.word.proofs.LongWords.{enough_of_word, whole_word}
use Rattle.word_stored.specs.Stored.{max_stored}
use Rattle.braid_handles.specs.Handles.{has_handle, after_steps, step_questions}
use Rattle.handle_reducer.specs.Reducing.{handle_questions, TookHandles}
use Rattle.desk_words.specs.Making.{to_write, no_answer}
use Rattle.desk_words.proofs.MakingLaws.{Bare, unread, wrote_makes}
use Rattle.desk_handles.specs.Taking.{taking_answer, taken_file, is_left, TakesOut, EnoughToTake}
use Rattle.desk_handles.specs.declared.Taken.{Taken}

-- ---- what is made

-- the file could not be read
pub none_taken : {read : Bool} {limit : ℕ} {word : List ℕ} {taken : Taken} → read ≡ false
    → Bare false no_answer taken.made → taken.left ≡ false → TakesOut read limit word taken
unfolding is_left
none_taken r b e =
    rw r
    (record {
      makes = unread _ _ refl b;
      left_is = e;
      keeps = λ z. absurd (omega (arith, b.answer_is));
    })

-- the file could be read, and the operation wrote to an output of zeros
pub handles_taken : {limit : ℕ} {word : List ℕ} {taken : Taken} → taken.made.read ≡ true
    → TookHandles word limit (replicate max_stored 0) taken.made.file taken.made.answer taken.made.bytes
    taken.left
    → TakesOut true limit word taken
unfolding taking_answer is_left
handles_taken r t =
    record {
      makes = wrote_makes _ r t.wrote refl;
      left_is = t.left_is;
      keeps = t.keeps;
    }

-- ---- how much is enough to read

module _ (limit : ℕ) where
  -- there is room, so the answer is that of the word's questions and of each step
  past_room : (word : List ℕ) → taking_answer limit word
      ≡ first_no (word_questions word ++ step_questions limit (codes word))
  unfolding taking_answer
  past_room word = passes 15 _ refl

  steps_after : (word : List ℕ) → taking_answer limit word
      ≡ granted (word_answer word) (first_no (step_questions limit (codes word))) (word_answer word)
  unfolding word_answer
  steps_after word = past_room word ∙ in_a_row (word_questions word) (step_questions limit (codes word)) tt

  module _ (n : ℕ) (h : 5002 < n) where
    enough_answers : Enough n (taking_answer limit)
    enough_answers word =
        let words = enough_of_word n h in
        steps_after _
        ∙ enough_granted word_answer (λ w. first_no (step_questions limit (codes w))) word_answer n words
        (whole_word n h)
        words word
        ∙ sym (steps_after word)

    -- a word whose first bytes are accepted ends there
    whole_taken : Whole n (taking_answer limit)
    unfolding word_answer
    whole_taken word e =
        let front = take n word in
        whole_word n h word
        (both_passed (word_questions front) (step_questions limit (codes front)) tt (sym (past_room front) ∙ e)).0

    pub enough_to_take : EnoughToTake limit n
    unfolding to_write is_left
    enough_to_take = (
      enough_answers,
      enough_granted (taking_answer limit) (taken_file limit) (λ word. []) n enough_answers whole_taken (λ word. refl),
      enough_granted (taking_answer limit) (λ word. has_handle (after_steps limit (codes word))) (λ word. false) n
          enough_answers whole_taken (λ word. refl),
    )
