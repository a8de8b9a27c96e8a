-- `pair_multiplier::inverse_of` meets its contract: it looks the reciprocal up in the field's table.
use mathlib.Core.Path.{◌∙◌}
use Rattle.field.proofs.Fields.{degree}
use Rattle.field.proofs.TableLaws.{inverse_at, reciprocals_short}
use Rattle.pair_multiplier.proofs.inverse_of.Goals as goal

pub inverse-requires : goal.inverse-requires
inverse-requires c = reciprocals_short c.args.f _ c.reciprocals.ensures

pub returns : goal.returns
returns c = c.inverse.ensures ∙ inverse_at (degree c.args.f) _ c.reciprocals.ensures c.args.a
