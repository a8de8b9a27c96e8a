-- `arc_laying::lay` meets its contract. The loop's invariant: the letters read and the letters written are arcs with
-- the same start and the same other letters, and the plan has right places for the letters read.
use Prim.Native.Nat.{ℕ, ◌+◌, ◌*◌, ◌-◌, ◌≤◌, ◌<◌}
use mathlib.Core.Path.{◌≡◌}
use lib.ListN.{length}
use Rattle.arc_laying.specs.Plans.{PlacedAt}
use Rattle.arc_laying.specs.steps.Laying.{LaidSoFar}
use Rattle.arc_laying.proofs.lay.Given as goal

abbrev pub invariant-loop-out : goal.invariant-loop-out
invariant-loop-out l =
    (l.s.read ≤ length l.part)
    × (l.s.written ≤ length l.part)
    × (length l.out ≡ length l.initial.out)
    × LaidSoFar l.under l.p l.part l.out l.s.read l.s.written l.s.old l.s.new
    × ((k : ℕ) → k < l.s.read → PlacedAt l.under l.p l.part l.plan k)

abbrev pub decreases-loop-out : goal.decreases-loop-out
decreases-loop-out l = 2 * length l.part - (l.s.read + l.s.written)
