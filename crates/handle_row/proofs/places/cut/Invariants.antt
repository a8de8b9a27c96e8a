-- `handle_row::places::cut` meets its contract. The loop's invariant: the tables are those of the first k places.
use Prim.Native.Nat.{◌≤◌}
use Rattle.handle_row.specs.steps.Gaps.{Tables}
use Rattle.handle_row.proofs.places.cut.Given as goal

abbrev pub invariant-loop-k : goal.invariant-loop-k
invariant-loop-k l = (l.from ≤ l.k) × (l.k ≤ l.left) × Tables l.row l.latest l.before l.k
