-- `matrix::place` meets its contract.
use borrow.Author.Rules.{rules}
use Rattle.matrix.specs.Layout.{place}
use Rattle.matrix.proofs.place.Goals as goal

pub returns : goal.returns
unfolding place
returns c = search rules
