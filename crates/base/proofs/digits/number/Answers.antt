-- `base::digits::number` meets its contract. The loop's invariant: v is the number that the digits so far write.
use mathlib.Core.Path.{refl}
use native.Mathlib.Omega.{arith}
use Rattle.base.specs.Digits.{value}
use Rattle.base.proofs.PackLaws.{value_more, value_fits}
use Rattle.base.proofs.digits.number.Goals as goal

pub loop-digit-init : goal.loop-digit-init
unfolding value
loop-digit-init c = refl

pub overflow_mul-v : goal.overflow_mul-v
overflow_mul-v c = grind (arith, value_fits)

pub overflow_add-v : goal.overflow_add-v
overflow_add-v c = grind (arith, value_fits)

pub loop-digit-preserved : goal.loop-digit-preserved
loop-digit-preserved c = grind (arith, value_more)
