-- `word::read::whole_letters` meets its contract. The loop's invariant: the flag says whether every half byte of the
-- bytes so far is a letter.
use Prim.Native.Nat.{◌*◌}
use mathlib.Core.Path.{◌≡◌}
use lib.ListN.{take}
use Rattle.base.specs.Lists.{every}
use Rattle.base.specs.Digits.{halves}
use Rattle.word.specs.Letters.{is_letter}
use Rattle.word.proofs.read.whole_letters.Given as goal

abbrev pub invariant-loop-b : goal.invariant-loop-b
invariant-loop-b l = l.lettered ≡ every is_letter (take (2 * l.b-index) (halves l.bytes))
