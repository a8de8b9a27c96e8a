-- The braid of a half byte is the freely reduced power of a pure braid generator. antt computes this as one test over
-- the sixteen half bytes.
use Prim.Native.Nat.{ℕ, ◌<◌}
use mathlib.Core.Path.{◌≡◌, refl}
use mathlib.Core.Bool.{true}
use Rattle.base.specs.Lists.{values, values_from, every, equal}
use Rattle.base.proofs.ListLaws.{every_values, equal_true}
use Rattle.word.specs.Reduction.{in_front, reduced}
use Rattle.slip_digest.specs.Digest.{selected, power_of, half_byte_braid}
use Rattle.slip_digest.specs.PureBraids.{pure_generator, power}

powers : every (λ h. equal (reduced (power (power_of h) (pure_generator (selected h)))) (half_byte_braid h))
    (values (λ h. h) 16) ≡ true
unfolding half_byte_braid values_from every equal in_front reduced pure_generator power
powers = refl

-- g_(l,8) to the power p, freely reduced, is the braid of the half byte
pub half_byte_power : (h : ℕ) → h < 16 → reduced (power (power_of h) (pure_generator (selected h))) ≡ half_byte_braid h
half_byte_power h below =
    equal_true (reduced (power (power_of h) (pure_generator (selected h)))) (half_byte_braid h)
    (every_values (λ h. equal (reduced (power (power_of h) (pure_generator (selected h)))) (half_byte_braid h))
    (λ h. h) 16
    powers h below)
