-- The verb of the desk that takes handles out of a word: its answer, what it writes, whether a handle is left, and how
-- large a buffer has to be.
use Rattle.std.specs.Prelude.{ℕ, ◌≡◌, Bool, true, false, cond, List, take}
use Rattle.base.specs.Questions.{first_no, granted}
use Rattle.text.specs.Enough.{Enough}
use Rattle.word.specs.Words.{codes, word_file}
use Rattle.word_stored.specs.Stored.{max_stored}
use Rattle.braid_handles.specs.Handles.{has_handle, after_steps}
use Rattle.handle_reducer.specs.Reducing.{handle_questions}
use Rattle.slip_meaning.specs.Meaning.{SameMeaning}
use Rattle.desk_words.specs.Making.{to_write, MakesNew}
use Rattle.desk_handles.specs.declared.Taken.{Taken}

-- the answer, where the output has room
unfoldable pub taking_answer : ℕ → List ℕ → ℕ
taking_answer limit word = first_no (handle_questions max_stored word limit)

-- the file of the word after at most `limit` steps
abbrev pub taken_file : ℕ → List ℕ → List ℕ
taken_file limit word = word_file (after_steps limit (codes word))

-- Is a handle left in the new word? No if the file could not be read, and no on a refusal.
unfoldable pub is_left : Bool → ℕ → List ℕ → Bool
is_left read limit word =
    cond read (granted (taking_answer limit word) (has_handle (after_steps limit (codes word))) false) false

-- What taking handles out of a word gives: the answer, the file of the new word, and whether a handle is left. The new
-- word means what the old word means.
pub record TakesOut (read : Bool) (limit : ℕ) (word : List ℕ) (taken : Taken) : Type 0 where
  pub makes : MakesNew read (taking_answer limit word) (taken_file limit word) taken.made
  pub left_is : taken.left ≡ is_left read limit word
  pub keeps : taken.made.answer ≡ 0 → SameMeaning word (take taken.made.bytes taken.made.file)

-- Under this limit, the first n bytes of a word's file are enough to read: the answer, the bytes written and whether a
-- handle is left are those for the whole file, however long it is.
abbrev pub EnoughToTake : ℕ → ℕ → Type 0
EnoughToTake limit n =
    Enough n (taking_answer limit)
    × Enough n (λ word. to_write true (taking_answer limit word) (taken_file limit word))
    × Enough n (is_left true limit)
