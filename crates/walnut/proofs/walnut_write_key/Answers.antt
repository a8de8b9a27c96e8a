-- `walnut::walnut_write_key` meets its contract: that of the key writer over the named field.
use mathlib.Core.Path.{sym}
use Rattle.walnut.proofs.walnut_write_key.Goals as goal

pub returns : goal.returns
returns c = rw (sym c.field_of.ensures) c.write_key.ensures
