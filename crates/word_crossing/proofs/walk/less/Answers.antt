-- `word_crossing::walk::less` meets its contract: neither number is so large that the difference does not fit.
use Rattle.word_crossing.proofs.SignedLaws.{difference_fits, difference_is}
use Rattle.word_crossing.proofs.walk.less.Goals as goal

pub overflow_sub-result : goal.overflow_sub-result
overflow_sub-result c = difference_fits c.args.a c.args.b c.requires.0 c.requires.1

pub returns : goal.returns
returns c = difference_is c.args.a c.args.b c.requires.0 c.requires.1
