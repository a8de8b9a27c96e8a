-- `base::two_bytes` meets its contract: two digits to base 256 write a number below 256 * 256.
use Prim.Native.Nat.{◌+◌, ◌-◌, ◌<◌, ◌^◌}
use mathlib.Core.Path.{◌≡◌}
use native.Mathlib.Omega.{arith}
use Rattle.base.specs.Digits.{value, part}
use Rattle.base.specs.Packing.{Below}
use Rattle.base.proofs.DigitLaws.{value_below}
use Rattle.base.proofs.PackLaws.{below_part, length_part}
use Rattle.base.proofs.two_bytes.Goals as goal

pub returns : goal.returns
returns c =
    let a = c.args in
    let two = part a.at 2 a.bytes.now in
    let below : Below 256 a.bytes.now = λ k. omega (arith, c.type_inv.bytes k) in
    let small = value_below 256 two (below_part 256 a.at 2 a.bytes.now below) in
    let small : value 256 two < 256 ^ 2 = rw (length_part a.at 2 a.bytes.now c.requires) at small in
    let two_places : a.at + 2 - a.at ≡ 2 = omega arith in
    let is = rw two_places at c.number.ensures in
    (is, omega arith)
