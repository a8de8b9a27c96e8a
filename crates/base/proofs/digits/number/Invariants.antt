-- `base::digits::number` meets its contract. The loop's invariant: v is the number that the digits so far write.
use mathlib.Core.Path.{◌≡◌}
use lib.ListN.{take}
use Rattle.base.specs.Digits.{value}
use Rattle.base.proofs.digits.number.Given as goal

abbrev pub invariant-loop-digit : goal.invariant-loop-digit
invariant-loop-digit l = l.v ≡ value l.base (take l.digit-index l.src)
