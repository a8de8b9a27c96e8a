-- `base::equal` meets its contract.
use native.Mathlib.Omega.{arith}
use Rattle.base.proofs.ListLaws.{pointwise_equal}
use Rattle.base.proofs.equal.Goals as goal

pub returns : goal.returns
returns c = grind (arith, pointwise_equal)
