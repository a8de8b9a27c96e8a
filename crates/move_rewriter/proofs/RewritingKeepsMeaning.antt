-- Demand 3, from bytes to bytes. If the rewriter answers 0, whatever the kinds and the number of the moves, the file in
-- the output's first bytes, as many as it reports, has the meaning of the word handed in.
use Prim.Native.Nat.{ℕ}
use mathlib.Core.Path.{◌≡◌, sym, ◌∙◌}
use mathlib.Core.List.{List}
use lib.ListN.{length, take}
use Rattle.base.specs.Questions.{first_no}
use Rattle.word.specs.Words.{word_file, Wrote}
use Rattle.word.proofs.RoundTrip.{wrote_file}
use Rattle.move_kinds.specs.Rewriting.{rewritten, rewriter_questions}
use Rattle.move_kinds.proofs.ListClaim.{word_kept}
use Rattle.move_kinds.proofs.RewriterAnswer.{accepted}
use Rattle.slip_meaning.specs.Meaning.{SameMeaning}
use Rattle.slip_meaning.proofs.SameBraids.{written_means}
use Rattle.move_rewriter.specs.Rewriter.{Rewrote}

module _ (word moves : List ℕ) {before after : List ℕ} {answer bytes : ℕ}
    (w : Wrote (rewriter_questions (length before) word moves) (word_file (rewritten word moves)) before after
    answer bytes) where
  pub rewriting_keeps_meaning : answer ≡ 0 → SameMeaning word (take bytes after)
  rewriting_keeps_meaning z =
      let e : first_no (rewriter_questions (length before) word moves) ≡ 0 = sym w.answer_is ∙ z in
      let a = accepted (length before) word moves e in
      let k = word_kept word moves a.word_accepted a.moves_accepted in
      rw (wrote_file w e) (written_means word (rewritten word moves) a.word_accepted k.same k.short)

  -- a rewriter that gives the right numbers and leaves the right bytes meets the whole contract
  pub rewrote_whole : Rewrote word moves before after answer bytes
  rewrote_whole = record { wrote = w; keeps = rewriting_keeps_meaning }
