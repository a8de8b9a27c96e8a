-- `key::whole_matrix` meets its contract. The loop's invariant: the first k entries are in their places, and all other
-- entries are zero.
use mathlib.Core.Path.{◌≡◌}
use native.Mathlib.Omega.{arith}
use Rattle.key.proofs.EntryLaws.{placed_none, placed_more, whole_put}
use Rattle.key.proofs.whole_matrix.Goals as goal

pub loop-k-init : goal.loop-k-init
loop-k-init c = placed_none _

pub loop-k-preserved : goal.loop-k-preserved
loop-k-preserved c =
    let l = c.loop-k in placed_more _ l.m l.k c.place.ensures.0 (omega arith) l.invariant

pub returns : goal.returns
returns c =
    let l = c.loop-k in
    let e : l.k ≡ 56 = omega arith in
    whole_put c.args.all.now c.requires l.m c.place-2.ensures.0 (rw e at l.invariant)
