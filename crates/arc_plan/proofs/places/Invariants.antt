-- `arc_plan::places` keeps the strand at a place of 0 to 7, and ends.
use Prim.Native.Nat.{◌≤◌}
use Rattle.arc_plan.proofs.places.Given as goal

abbrev pub invariant-loop-place : goal.invariant-loop-place
invariant-loop-place g l =
    (goal.iterator-loop-place g).can_next l.place-iterator
    × (goal.iterator-loop-place g).is_finite l.place-iterator
    × (l.x ≤ 7)
