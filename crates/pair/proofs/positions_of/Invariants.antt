-- `pair::positions_of` meets its contract. The loop's invariant: each label has its last position among the first i.
use Prim.Native.Nat.{ℕ, ◌<◌}
use mathlib.Core.Path.{◌≡◌}
use lib.ListN.{length, get_or}
use Rattle.word.specs.Strands.{last_position}
use Rattle.pair.proofs.positions_of.Given as goal

abbrev pub invariant-loop-i : goal.invariant-loop-i
invariant-loop-i l =
    (length l.positions ≡ 8) × ((a : ℕ) → a < 8 → get_or l.positions a 0 ≡ last_position l.labels a l.i)
