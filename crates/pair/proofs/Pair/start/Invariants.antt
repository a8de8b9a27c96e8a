-- `pair::Pair::start` meets its contract. The loop's invariant: the first i entries of the diagonal are 1.
use Prim.Native.Nat.{ℕ, zero, suc, ◌*◌}
use mathlib.Core.Path.{◌≡◌}
use mathlib.Core.List.{List}
use lib.ListN.{set, replicate}
use Rattle.pair.proofs.Pair.start.Given as goal

-- zeros, but for the first entries of the diagonal
abbrev pub diagonal : ℕ → List ℕ
diagonal zero = replicate 64 0
diagonal (suc i) = set (diagonal i) (9 * i) 1

abbrev pub invariant-loop-i : goal.invariant-loop-i
invariant-loop-i l = l.matrix ≡ diagonal l.i
