-- `desk_shelf::is_shelf` meets its contract: its test is that of the definition.
use mathlib.Core.Path.{refl}
use Rattle.desk_shelf.specs.Serving.{is_shelf}
use Rattle.desk_shelf.proofs.is_shelf.Goals as goal

pub returns : goal.returns
unfolding is_shelf
returns c = refl
