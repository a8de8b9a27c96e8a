-- `pair_operands::all_fit` meets its contract. The loop's invariant: the flag says whether the numbers so far are below
-- the limit.
use mathlib.Core.Path.{◌≡◌}
use lib.Dec.{ltb}
use lib.ListN.{take}
use Rattle.base.specs.Lists.{every}
use Rattle.pair_operands.proofs.all_fit.Given as goal

abbrev pub invariant-loop-x : goal.invariant-loop-x
invariant-loop-x l = l.fits ≡ every (λ x. ltb x l.limit) (take l.x-index l.xs)
