-- `pair_operands::is_order` meets its contract. The loop's invariant: the labels so far are below 8, and the number
-- counts them.
use Prim.Native.Nat.{◌*◌, ◌≤◌}
use mathlib.Core.Path.{◌≡◌}
use mathlib.Core.Bool.{true}
use lib.Dec.{ltb}
use lib.ListN.{take}
use Rattle.base.specs.Lists.{every}
use Rattle.pair_operands.proofs.CountLaws.{counted}
use Rattle.pair_operands.proofs.is_order.Given as goal

abbrev pub invariant-loop-label : goal.invariant-loop-label
invariant-loop-label l =
    (every (λ x. ltb x 8) (take l.label-index l.labels) ≡ true)
    × (l.counts ≡ counted (take l.label-index l.labels))
    × (l.counts ≤ 72057594037927936 * l.label-index)
