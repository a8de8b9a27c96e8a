-- `desk_dialect::parts_of` meets its contract. The loop's invariant: the first k parts are written.
use Prim.Native.Nat.{ℕ, ◌<◌}
use mathlib.Core.Path.{◌≡◌}
use lib.ListN.{length, get_or}
use Rattle.desk_dialect.specs.Converting.{part_at}
use Rattle.desk_dialect.proofs.parts_of.Given as goal

abbrev pub invariant-loop-k : goal.invariant-loop-k
invariant-loop-k l = (length l.parts ≡ length l.initial.parts)
    × ((j : ℕ) → j < l.k → get_or l.parts j 0 ≡ part_at l.text j)
