-- `desk_shelf::Served::none` meets its contract: the shelf is all zeros.
use mathlib.Core.Path.{refl}
use Rattle.shelf.specs.Shelves.{empty_shelf}
use Rattle.desk_shelf.proofs.Served.none.Goals as goal

pub returns : goal.returns
unfolding empty_shelf
returns c = (refl, refl, refl, refl)
