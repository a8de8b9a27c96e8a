-- `pair_carrying::held::pair_of` meets its contract: the matrix of the columns, and the names at the places.
use mathlib.Core.Path.{ap₂, ◌∙◌}
use Rattle.pair.specs.Action.{pair_of, t_value}
use Rattle.pair.specs.steps.Columns.{named}
use Rattle.pair_carrying.proofs.held.pair_of.Goals as goal

pub returns : goal.returns
unfolding named t_value
returns c = c.with.ensures ∙ ap₂ pair_of c.matrix_of.ensures c.values_at.ensures
