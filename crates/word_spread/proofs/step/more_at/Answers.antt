-- `word_spread::step::more_at` meets its contract: the three numbers are those of the list's neighbours.
use Rattle.base.specs.Lists.{values_from}
use Rattle.word.specs.Strands.{swapped}
use Rattle.word_spread.specs.steps.Counting.{smaller}
use Rattle.word_spread.proofs.CountLaws.{neighbour_row, more_is}
use Rattle.word_spread.proofs.step.more_at.Goals as goal

pub returns : goal.returns
unfolding neighbour_row values_from swapped smaller
returns c = more_is c.args.counts.now c.args.k c.requires.1
