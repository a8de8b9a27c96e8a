-- `pair_operands::are_inverse` meets its contract. The loop's invariant: the labels before place i are below 8, and
-- their positions are where they stand.
use Prim.Native.Nat.{ℕ, ◌+◌, ◌<◌}
use mathlib.Core.Path.{◌≡◌}
use lib.ListN.{get_or}
use Rattle.pair_operands.proofs.are_inverse.Given as goal

abbrev pub invariant-loop-i : goal.invariant-loop-i
invariant-loop-i l =
    (k : ℕ) → k < l.i → (get_or l.labels k 0 < 8) × (get_or l.positions (get_or l.labels k 0) 0 ≡ k + 1)
