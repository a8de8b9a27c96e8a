-- No accepted rewriting changes a crossing number (document 02, §2). Any function that meets the contract of the
-- exported crossings gives every two labels the same answer and number in the new word as in the word handed in. The
-- rewriter may be any that meets its own contract.
use Prim.Native.Nat.{ℕ, ◌<◌}
use mathlib.Core.Path.{◌≡◌, refl, sym, ◌∙◌}
use mathlib.Core.List.{List}
use lib.ListN.{length, take}
use Rattle.base.specs.Questions.{first_no}
use Rattle.base.specs.Lists.{Bytes, values_from}
use Rattle.word.specs.Strands.{strands_in_order}
use Rattle.word.proofs.ReadLaws.{accepted_word}
use Rattle.word.proofs.RoundTrip.{word_file_bytes, wrote_file}
use Rattle.word_crossing.specs.Crossings.{crossings}
use Rattle.word_crossing.proofs.AnyCrossings.{Operation, Meets, crosses_alike}
use Rattle.braid_same.proofs.Laws.{same_lettered}
use Rattle.move_kinds.specs.Rewriting.{rewritten, rewriter_questions}
use Rattle.move_kinds.proofs.ListClaim.{word_kept}
use Rattle.move_kinds.proofs.RewriterAnswer.{accepted}
use Rattle.move_rewriter.specs.Rewriter.{Rewrote}

-- the new word's file consists of bytes
rewritten_bytes : {word moves before after : List ℕ} {answer bytes : ℕ}
    → Rewrote word moves before after answer bytes → answer ≡ 0 → Bytes (take bytes after)
rewritten_bytes {word} {moves} {before} r z =
    let e : first_no (rewriter_questions (length before) word moves) ≡ 0 = sym r.wrote.answer_is ∙ z in
    let a = accepted (length before) word moves e in
    let k = word_kept word moves a.word_accepted a.moves_accepted in
    rw (wrote_file r.wrote e)
    (word_file_bytes (rewritten word moves) k.short
    (same_lettered k.same (accepted_word word a.word_accepted).lettered))

pub rewriting_keeps_crossings : (f : Operation) → Meets f → {word moves before after : List ℕ} {answer bytes : ℕ}
    → Rewrote word moves before after answer bytes → Bytes word → answer ≡ 0 → (a b : ℕ) → a < 256 → b < 256
    → f (take bytes after) a b ≡ f word a b
unfolding crossings values_from
rewriting_keeps_crossings f meets {word} {after = after} {bytes = bytes} r x z a b p q =
    let s = r.keeps z in
    crosses_alike f meets word (take bytes after) x (rewritten_bytes r z) s.old_accepted s.new_accepted a b p q
    (s.crossed strands_in_order refl a b)
