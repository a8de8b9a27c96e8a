-- `arc_plan::sides` keeps the strand at a place of 0 to 7, and changes no code after those of the part.
use Prim.Native.Nat.{◌≤◌}
use mathlib.Core.Path.{◌≡◌}
use lib.ListN.{length}
use Rattle.arc_plan.specs.steps.Planning.{Planned}
use Rattle.arc_plan.proofs.sides.Given as goal

abbrev pub invariant-loop-i : goal.invariant-loop-i
invariant-loop-i l = (length l.plan ≡ length l.initial.plan) × (length l.steps ≡ 9) × (l.x ≤ 7)
    × Planned (length l.part) l.initial.plan l.plan

abbrev pub invariant-loop-i-else-last_first : goal.invariant-loop-i-else-last_first
invariant-loop-i-else-last_first l = (length l.plan ≡ length l.initial.plan) × (length l.steps ≡ 9) × (l.x ≤ 7)
    × Planned (length l.part) l.initial.plan l.plan
