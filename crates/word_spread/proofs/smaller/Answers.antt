-- `word_spread::smaller` meets its contract: the test as a number.
use mathlib.Core.Path.{◌≡◌, refl, ◌∙◌}
use mathlib.Core.Bool.{Bool, true, false, cond}
use lib.Dec.{ltb}
use mir.Val.{bool_byte}
use Rattle.word_spread.specs.steps.Counting.{smaller}
use Rattle.word_spread.proofs.smaller.Goals as goal

as_number : (b : Bool) → bool_byte b ≡ cond b 1 0
as_number true = refl
as_number false = refl

pub returns : goal.returns
unfolding smaller
returns c = c.from.ensures ∙ as_number (ltb c.args.a c.args.b)
