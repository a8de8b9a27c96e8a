-- `pair_operands::all_nonzero` meets its contract. The loop's invariant: the flag says whether the numbers so far are
-- other than zero.
use mathlib.Core.Path.{◌≡◌}
use lib.ListN.{take}
use Rattle.pair_operands.specs.Operands.{nonzero}
use Rattle.pair_operands.proofs.all_nonzero.Given as goal

abbrev pub invariant-loop-x : goal.invariant-loop-x
invariant-loop-x l = l.other ≡ nonzero (take l.x-index l.xs)
