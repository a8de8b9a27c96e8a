-- `matrix_elimination::corner_alone` meets its contract. The loop's invariant: the last row is zero in the columns
-- before j. The pivot of the last column is then the corner, and no row gains anything.
use Prim.Native.Nat.{ℕ, ◌<◌}
use mathlib.Core.Path.{◌≡◌}
use Rattle.matrix.specs.Layout.{entry}
use Rattle.matrix_elimination.proofs.corner_alone.Given as goal

abbrev pub invariant-loop-j : goal.invariant-loop-j
invariant-loop-j l = (c : ℕ) → c < l.j → entry l.m 7 c ≡ 0
