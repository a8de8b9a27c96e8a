-- `desk_spread::usual_text` meets its contract: the text for length 2.
use Rattle.desk_spread.proofs.usual_text.Goals as goal

pub returns : goal.returns
returns c = c.spread_text.ensures
