-- `desk_shelf::shelf_in` meets its contract: a shelf fits, so its bytes lie over zeros.
use Rattle.shelf.specs.Shelves.{empty_shelf}
use Rattle.desk_shelf.proofs.ServingLaws.{laid}
use Rattle.desk_shelf.proofs.shelf_in.Goals as goal

pub returns : goal.returns
unfolding empty_shelf
returns c =
    laid c.args.file.now c.put.new.out c.requires c.put.ensures
