-- `field_logarithms::product_of` meets its contract: the entry that it reads is a byte.
use Prim.Native.Nat.{◌+◌}
use mathlib.Core.Path.{refl}
use native.Mathlib.Omega.{arith}
use Rattle.field_logarithms.proofs.product_of.Goals as goal

pub overflow_cast-result : goal.overflow_cast-result
overflow_cast-result c =
    omega (arith, c.requires.0.byte (256 + (c.args.i + c.args.j)) (omega arith))

pub returns : goal.returns
returns c = refl
