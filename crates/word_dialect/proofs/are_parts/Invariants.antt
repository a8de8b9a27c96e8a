-- `word_dialect::are_parts` meets its contract. The loop's invariant: the sum and the flag are those of the parts
-- so far.
use Prim.Native.Nat.{◌*◌, ◌≤◌}
use mathlib.Core.Path.{◌≡◌}
use lib.Dec.{ltb}
use lib.ListN.{take}
use Rattle.base.specs.Lists.{every}
use Rattle.word_dialect.specs.Dialect.{part_sum}
use Rattle.word_dialect.proofs.are_parts.Given as goal

abbrev pub invariant-loop-p : goal.invariant-loop-p
invariant-loop-p l =
    (l.sum ≤ 255 * l.p-index) × (l.sum ≡ part_sum (take l.p-index l.parts))
    × (l.positive ≡ every (λ p. ltb 0 p) (take l.p-index l.parts))
