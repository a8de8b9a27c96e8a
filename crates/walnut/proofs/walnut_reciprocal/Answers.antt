-- `walnut::walnut_reciprocal` meets its contract: that of the reciprocal over the named field.
use mathlib.Core.Path.{sym}
use Rattle.walnut.proofs.walnut_reciprocal.Goals as goal

pub returns : goal.returns
returns c = rw (sym c.field_of.ensures) c.reciprocal.ensures
