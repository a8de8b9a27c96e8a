-- A rewriter is a function from its inputs to what it leaves. If it meets the contract, its answer is that of the
-- moves. If no move is refused, it leaves the file of the new word and reports the number of its bytes. The contract
-- holds a rewriter only to inputs that are bytes.
use Prim.Native.Nat.{ℕ, ◌≤◌}
use mathlib.Core.Path.{◌≡◌, ◌∙◌}
use mathlib.Core.List.{List}
use lib.ListN.{length, take}
use Rattle.base.specs.Questions.{first_no}
use Rattle.base.specs.Lists.{Bytes}
use Rattle.base.proofs.QuestionLaws.{granted_zero}
use Rattle.word.specs.Words.{codes, word_answer, word_file}
use Rattle.word.proofs.RoundTrip.{wrote_file}
use Rattle.move_kinds.specs.Rewriting.{steps, move_questions, rewritten, list_questions, rewriter_questions}
use Rattle.move_rewriter.specs.Rewriter.{Rewrote}
use Rattle.move_kinds.proofs.RewriterAnswer.{past_list}

-- what a rewriter leaves
pub record Left : Type 0 where
  pub answer : ℕ
  pub bytes : ℕ
  pub after : List ℕ

abbrev pub Rewriter : Type 0
Rewriter = (word moves before : List ℕ) → Left

-- the file in the output's first bytes, as many as the rewriter reports
abbrev pub written : Left → List ℕ
written l = take l.bytes l.after

-- Inputs of bytes: an accepted word, a move list that passes its own questions, and an output with room for a word.
pub record Handed (word moves before : List ℕ) : Type 0 where
  pub word_bytes : Bytes word
  pub move_bytes : Bytes moves
  pub output_bytes : Bytes before
  pub room : 5002 ≤ length before
  pub word_accepted : word_answer word ≡ 0
  pub list_accepted : first_no (list_questions moves) ≡ 0

abbrev pub Meets : Rewriter → Type 0
Meets f =
    (word moves before : List ℕ) → Handed word moves before
    → Rewrote word moves before (f word moves before).after (f word moves before).answer (f word moves before).bytes

-- the answer of the moves, one after another
abbrev pub moves_answer : List ℕ → List ℕ → ℕ
moves_answer word moves = first_no (move_questions (steps moves) (codes word))

module _ (f : Rewriter) (meets : Meets f) {word moves before : List ℕ} (h : Handed word moves before) where
  questions_are : first_no (rewriter_questions (length before) word moves) ≡ moves_answer word moves
  questions_are = past_list (length before) word moves h.room h.word_accepted h.list_accepted

  -- the answer is that of the moves
  pub answer_of : (f word moves before).answer ≡ moves_answer word moves
  answer_of = (meets word moves before h).wrote.answer_is ∙ questions_are

  -- if no move is refused, the file is that of the new word, and the reported number is its number of bytes
  pub file_of : moves_answer word moves ≡ 0 → written (f word moves before) ≡ word_file (rewritten word moves)
  file_of e = wrote_file (meets word moves before h).wrote (questions_are ∙ e)

  pub bytes_of : moves_answer word moves ≡ 0 → (f word moves before).bytes ≡ length (word_file (rewritten word moves))
  bytes_of e =
      (meets word moves before h).wrote.bytes_is
      ∙ granted_zero (length (word_file (rewritten word moves))) 0 (questions_are ∙ e)
