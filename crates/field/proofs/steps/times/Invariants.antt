-- `field::steps::times` meets its contract. The loop's invariant: the total plus t times the rest of b is the product.
use Prim.Native.Nat.{◌-◌, ◌^◌, ◌<◌}
use mathlib.Core.Path.{◌≡◌}
use lib.Bits.{bit_xor}
use Rattle.field.specs.Polynomial.{horner, times}
use Rattle.field.proofs.steps.times.Given as goal

abbrev pub invariant-loop : goal.invariant-loop
invariant-loop l =
    (l.total < 2 ^ l.bits) × (l.t < 2 ^ l.bits)
    × (bit_xor l.total (horner l.bits l.modulus l.t (l.bits - l.counter) l.rest) ≡ times l.bits l.modulus l.a l.b)
