-- `shelf_charges::replace` meets its contract: the bytes are stored from the place on.
use Rattle.shelf.proofs.ReplacedLaws.{put_back}
use Rattle.shelf_charges.proofs.replace.Goals as goal

pub returns : goal.returns
returns c =
    put_back c.args.at c.args.bytes.now c.args.shelf.now c.put.new.out c.requires c.put.ensures
