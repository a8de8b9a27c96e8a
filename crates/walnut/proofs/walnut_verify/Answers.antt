-- `walnut::walnut_verify` meets its contract: that of the verdict.
use Rattle.walnut.proofs.walnut_verify.Goals as goal

pub returns : goal.returns
returns c = c.verify.ensures
