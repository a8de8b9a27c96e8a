-- `pair_multiplier::follow` meets its contract: the two positions that change are stored.
use Prim.Native.Nat.{◌+◌}
use native.Mathlib.Omega.{arith}
use Rattle.pair_multiplier.proofs.FollowLaws.{label_below, followed}
use Rattle.pair_multiplier.proofs.follow.Goals as goal

pub bounds-positions-next : goal.bounds-positions-next
bounds-positions-next c =
    rw (c.from-next.ensures, c.from-at.ensures)
    (omega (arith, label_below c.args.labels.now c.args.positions.now c.requires.0 (c.args.g + 1)))

pub bounds-positions-own : goal.bounds-positions-own
bounds-positions-own c =
    rw (c.from-own.ensures, c.from-at.ensures)
    (omega (arith, label_below c.args.labels.now c.args.positions.now c.requires.0 c.args.g))

pub returns : goal.returns
returns c =
    rw (c.from-next.ensures, c.from-own.ensures, c.from-at.ensures)
    (followed c.args.labels.now c.args.positions.now c.requires.0 c.args.g c.requires.1)
