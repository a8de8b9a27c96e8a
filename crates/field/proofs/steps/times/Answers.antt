-- `field::steps::times` meets its contract. The loop's invariant: the total plus t times the rest of b is the product.
use Prim.Native.Nat.{ℕ, suc, ◌+◌, ◌-◌, ◌*◌, ◌/◌, ◌%◌, ◌^◌, ◌≤◌}
use mathlib.Core.Path.{◌≡◌, sym, ap, ap₂, ◌∙◌}
use native.Mathlib.Nat.{mod-lt}
use native.Mathlib.Omega.{arith}
use lib.Bits.{bit_xor, xor_zero_r, xor_lt}
use lib.Pow.{pow_pos, pow_mono}
use Rattle.field.specs.Polynomial.{horner, times}
use Rattle.field.proofs.Laws.{times_low}
use Rattle.field.proofs.StepLaws.{digit_below, turn}
use Rattle.field.proofs.steps.times.Goals as goal

pub low-t-requires : goal.low-t-requires
low-t-requires c = c.requires.1

pub loop-init : goal.loop-init
unfolding times
loop-init c =
    let a = c.args in
    let e : a.bits - 0 ≡ a.bits = omega arith in (
      pow_pos a.bits,
      rw c.low-t.ensures (mod-lt a.a (pow_pos a.bits)),
      rw c.from-rest.ensures (ap₂ (λ (t k : ℕ). horner a.bits a.modulus t k a.b) c.low-t.ensures e
          ∙ times_low c.requires.0 a.a a.b),
    )

pub overflow_mul-total : goal.overflow_mul-total
overflow_mul-total c =
    let l = c.loop in
    let b : 2 ^ c.args.bits ≤ 2 ^ 8 = pow_mono c.requires.1 in
    omega (arith, digit_below (l.rest % 2) l.t (2 ^ c.args.bits) (omega arith) l.invariant.1)

pub times_x-t-requires : goal.times_x-t-requires
times_x-t-requires c =
    let pre = c.requires in
    (pre.0, pre.1, c.loop.invariant.1)

pub loop-preserved : goal.loop-preserved
loop-preserved c =
    let l = c.loop in
    let n = c.args.bits in
    let p = c.args.modulus in
    let e : n - l.counter ≡ suc (n - (l.counter + 1)) = omega arith in (
      xor_lt n l.total (l.rest % 2 * l.t) l.invariant.0
          (digit_below (l.rest % 2) l.t (2 ^ n) (omega arith) l.invariant.1),
      c.times_x-t.ensures.1,
      ap (λ (t : ℕ). bit_xor (bit_xor l.total (l.rest % 2 * l.t)) (horner n p t (n - (l.counter + 1)) (l.rest / 2)))
          c.times_x-t.ensures.0
          ∙ turn c.requires.0 l.total l.t (n - (l.counter + 1)) l.rest l.invariant.1
          ∙ ap (λ (k : ℕ). bit_xor l.total (horner n p l.t k l.rest)) (sym e)
          ∙ l.invariant.2,
    )

pub overflow_cast-result : goal.overflow_cast-result
overflow_cast-result c =
    let b : 2 ^ c.args.bits ≤ 2 ^ 8 = pow_mono c.requires.1 in
    omega (arith, c.loop.invariant.0)

pub returns : goal.returns
unfolding horner
returns c =
    let l = c.loop in
    let a = c.args in
    let e : a.bits - l.counter ≡ 0 = omega arith in
    sym (xor_zero_r l.total)
    ∙ ap (λ (k : ℕ). bit_xor l.total (horner a.bits a.modulus l.t k l.rest)) (sym e) ∙ l.invariant.2
