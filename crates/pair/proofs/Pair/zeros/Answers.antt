-- `pair::Pair::zeros` meets its contract: antt computes the definition.
use mathlib.Core.Path.{refl}
use Rattle.pair.specs.PairQuestions.{zero_pair}
use Rattle.pair.proofs.Pair.zeros.Goals as goal

pub returns : goal.returns
unfolding zero_pair
returns c = refl
