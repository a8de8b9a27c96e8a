-- `word_store::write_groups` meets its contract. The loop's invariant: the first k groups are written, and the other
-- bytes of the output are unchanged.
use mathlib.Core.Path.{◌≡◌}
use Rattle.base.specs.Lists.{overlaid}
use Rattle.word_store.proofs.GroupLaws.{groups}
use Rattle.word_store.proofs.write_groups.Given as goal

abbrev pub invariant-loop-k : goal.invariant-loop-k
invariant-loop-k g l =
    let kept = g.K.Kept in
    l.out ≡ overlaid (groups kept.of kept.base kept.BYTES g.met.K.Kept.full l.bytes l.initial.out l.k) l.initial.out
