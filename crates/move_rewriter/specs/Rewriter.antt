-- What the rewriter gives and leaves, and demand 3's claim about the word that it writes.
use Rattle.std.specs.Prelude.{ℕ, ◌≡◌, List, length, take}
use Rattle.word.specs.Words.{word_file, Wrote}
use Rattle.move_kinds.specs.Rewriting.{rewritten, rewriter_questions}
use Rattle.slip_meaning.specs.Meaning.{SameMeaning}

pub record Rewrote (word moves before after : List ℕ) (answer bytes : ℕ) : Type 0 where
  -- As a writer of words: the answer, the number of bytes written, and the new word's file in the output's first bytes.
  -- On a refusal the output is unchanged.
  pub wrote : Wrote (rewriter_questions (length before) word moves) (word_file (rewritten word moves)) before after
      answer bytes
  -- If the move list is accepted, the file in the output's first bytes, as many as the rewriter reports, has the
  -- meaning of the word handed in.
  pub keeps : answer ≡ 0 → SameMeaning word (take bytes after)
