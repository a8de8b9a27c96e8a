-- Taking handles out as an operation on word files: its questions, what it gives and leaves, and demand 3's claim about
-- the word that it writes. The limit is the greatest number of steps.
use Rattle.std.specs.Prelude.{ℕ, ◌≡◌, Bool, false, List, ◌∷◌, ◌++◌, length, take}
use Rattle.base.specs.Questions.{Question, first_no, granted}
use Rattle.word.specs.Words.{codes, room_question, word_questions, word_file, Wrote}
use Rattle.braid_handles.specs.Handles.{has_handle, after_steps, step_questions}
use Rattle.slip_meaning.specs.Meaning.{SameMeaning}

-- Taking handles out: 15, the word, then 32 for each step up to the limit
abbrev pub handle_questions : ℕ → List ℕ → ℕ → List Question
handle_questions room word limit = room_question room ∷ (word_questions word ++ step_questions limit (codes word))

-- the codes of the new word, if no question is answered no
abbrev pub handles_out : List ℕ → ℕ → List ℕ
handles_out word limit = after_steps limit (codes word)

pub record TookHandles (word : List ℕ) (limit : ℕ) (before after : List ℕ) (answer bytes : ℕ) (left : Bool) : Type 0
  where
    -- As a writer of words: the answer, the number of bytes written, and the new word's file in the output's first
    -- bytes. On a refusal the output is unchanged.
    pub wrote : Wrote (handle_questions (length before) word limit) (word_file (handles_out word limit)) before after
        answer bytes
    -- whether the new word has a handle; no on a refusal
    pub left_is : left
        ≡ granted (first_no (handle_questions (length before) word limit)) (has_handle (handles_out word limit)) false
    -- If the word is accepted and no step is refused, the file in the output's first bytes, as many as are reported,
    -- has the meaning of the word handed in.
    pub keeps : answer ≡ 0 → SameMeaning word (take bytes after)
