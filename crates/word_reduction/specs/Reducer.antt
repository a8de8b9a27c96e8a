-- Free reduction as an operation on word files.
use Rattle.std.specs.Prelude.{ℕ, List, ◌∷◌, length}
use Rattle.base.specs.Questions.{Question}
use Rattle.word.specs.Words.{codes, room_question, word_questions, word_file, Wrote}
use Rattle.word.specs.Reduction.{reduced}

-- Free reduction: 15, then the word
abbrev pub reducer_questions : ℕ → List ℕ → List Question
reducer_questions room file = room_question room ∷ word_questions file

-- what free reduction returns, and what it leaves in the output
abbrev pub WroteReduced : List ℕ → List ℕ → List ℕ → ℕ → ℕ → Type 0
WroteReduced word before after answer bytes =
    Wrote (reducer_questions (length before) word) (word_file (reduced (codes word))) before after answer bytes
