-- `pair::letter::exchange` meets its contract: the library's exchange of two elements is the exchange of the strands.
use mathlib.Core.Path.{sym, ◌∙◌}
use native.Mathlib.Omega.{arith}
use Rattle.std.proofs.lemmas.List.Edits.{swap_is}
use Rattle.word.specs.Strands.{swapped}
use Rattle.pair.proofs.letter.exchange.Goals as goal

pub returns : goal.returns
unfolding swapped
returns c = c.swap.ensures.after ∙ sym (swap_is c.args.labels.now c.args.g _ 0 (omega arith) (omega arith))
