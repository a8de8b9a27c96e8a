-- `field::steps::low` meets its contract: the mask keeps the low bits.
use Prim.Native.Nat.{ℕ, ◌*◌, ◌%◌, ◌^◌, ◌≤◌}
use mathlib.Core.Path.{◌≡◌, ap, ◌∙◌}
use native.Mathlib.Nat.{one-mul, mod-eq_of_lt}
use native.Mathlib.Omega.{arith}
use lib.Bits.{and_mask}
use lib.Pow.{pow_pos, pow_mono}
use Rattle.field.proofs.steps.low.Goals as goal

-- the shift loses no bit
shifted : (bits : ℕ) → bits ≤ 8 → 1 * 2 ^ bits % 18446744073709551616 ≡ 2 ^ bits
shifted bits h =
    let b : 2 ^ bits ≤ 2 ^ 8 = pow_mono h in
    ap (λ (x : ℕ). x % 18446744073709551616) (one-mul (2 ^ bits)) ∙ mod-eq_of_lt (omega arith)

pub overflow_sub-result : goal.overflow_sub-result
overflow_sub-result c = rw (shifted c.args.bits c.requires) (pow_pos c.args.bits)

pub returns : goal.returns
returns c =
    rw (c.from.ensures, shifted c.args.bits c.requires) (and_mask c.args.a c.args.bits)
