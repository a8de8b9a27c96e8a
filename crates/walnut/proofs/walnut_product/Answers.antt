-- `walnut::walnut_product` meets its contract: that of the product over the named field.
use mathlib.Core.Path.{sym}
use Rattle.walnut.proofs.walnut_product.Goals as goal

pub returns : goal.returns
returns c = rw (sym c.field_of.ensures) c.product.ensures
