-- Laws of the rewriter's code: its answer, and what it leaves in the output.
use Prim.Native.Nat.{ℕ, ◌≤◌}
use mathlib.Core.Path.{◌≡◌, sym, ap, ◌∙◌}
use mathlib.Core.List.{List}
use native.Mathlib.Omega.{arith}
use lib.ListN.{length, take}
use lib.Seq.{length-take-le}
use Rattle.base.specs.Questions.{first_no}
use Rattle.word.specs.Words.{codes, word_answer, word_file, writer_questions, Wrote}
use Rattle.word.proofs.LetterLaws.{Lettered}
use Rattle.word.proofs.ReadLaws.{accepted_word}
use Rattle.word.proofs.WriteLaws.{wrote_same, writable}
use Rattle.braid_same.proofs.Laws.{same_lettered}
use Rattle.move_kinds.specs.Rewriting.{steps, rewritten, list_questions, rewriter_questions}
use Rattle.move_kinds.specs.steps.Leaving.{moved, Leaves}
use Rattle.move_kinds.proofs.MoveByMove.{answers_alike, words_alike}
use Rattle.move_kinds.proofs.ListClaim.{word_kept}
use Rattle.move_kinds.proofs.RewriterAnswer.{past_list}

module _ (word moves out : List ℕ) (room : 5002 ≤ length out) (w : word_answer word ≡ 0)
    (l : first_no (list_questions moves) ≡ 0) where
  -- the rewriter's answer is the answer of the moves as the code makes them
  pub rewriter_answer : first_no (rewriter_questions (length out) word moves)
      ≡ (moved (steps moves) (codes word)).answer
  rewriter_answer = past_list (length out) word moves room w l ∙ answers_alike (steps moves) (codes word)

  -- if every move is made, the writer of words writes what the rewriter must write
  pub rewrote : {row after : List ℕ} {a letters answer bytes : ℕ} → a ≡ 0 → letters ≤ 10000
      → Leaves (moved (steps moves) (codes word)) row a letters
      → Wrote (writer_questions (length out) (take letters row)) (word_file (take letters row)) out after answer bytes
      → Wrote (rewriter_questions (length out) word moves) (word_file (rewritten word moves)) out after answer bytes
  rewrote {row} {letters = letters} z few r o =
      let made : (moved (steps moves) (codes word)).answer ≡ 0 = sym r.answer_is ∙ z in
      let new : take letters row ≡ rewritten word moves = r.word_is ∙ words_alike (steps moves) (codes word) made in
      let few' : length (take letters row) ≤ 10000 = omega (arith, length-take-le letters row r.letters_in) in
      let kept = word_kept word moves w (answers_alike (steps moves) (codes word) ∙ made) in
      let good : Lettered (take letters row) = rw new (same_lettered kept.same (accepted_word word w).lettered) in
      wrote_same (writable (length out) (take letters row) room few' good ∙ sym (rewriter_answer ∙ made))
      (ap word_file new) o
