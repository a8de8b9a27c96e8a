-- `base::put` meets its contract: as many bytes are copied as both have.
use native.Mathlib.Omega.{arith}
use Rattle.std.proofs.lemmas.Grind.{common_steps}
use Rattle.std.proofs.lemmas.List.{take_min}
use Rattle.base.specs.Lists.{overlaid}
use Rattle.base.proofs.put.Goals as goal

pub returns : goal.returns
unfolding overlaid
returns c = grind (arith, common_steps, take_min)
