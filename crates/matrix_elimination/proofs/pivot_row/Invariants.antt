-- `matrix_elimination::pivot_row` meets its contract. The loop's invariant: column n is zero in the rows p to n.
use Prim.Native.Nat.{ℕ, ◌≤◌}
use mathlib.Core.Path.{◌≡◌}
use Rattle.matrix.specs.Layout.{entry}
use Rattle.matrix_elimination.proofs.pivot_row.Given as goal

abbrev pub invariant-loop-p : goal.invariant-loop-p
invariant-loop-p l = (k : ℕ) → l.p ≤ k → k ≤ l.n → entry l.m k l.n ≡ 0
