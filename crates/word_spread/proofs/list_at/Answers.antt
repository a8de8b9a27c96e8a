-- `word_spread::list_at` meets its contract: its table has the 24 lists in order.
use mathlib.Core.Path.{sym}
use Rattle.word_spread.proofs.ListsOfFour.{at_listed}
use Rattle.word_spread.proofs.list_at.Goals as goal

pub returns : goal.returns
returns c = sym (at_listed c.args.k)
