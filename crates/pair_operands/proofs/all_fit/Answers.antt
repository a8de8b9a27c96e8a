-- `pair_operands::all_fit` meets its contract: every byte fits eight bits or more, and for fewer bits a shift gives the
-- limit.
use Prim.Native.Nat.{ℕ, ◌*◌, ◌%◌, ◌^◌, ◌≤◌, ◌<◌}
use mathlib.Core.Path.{◌≡◌, refl, sym, ap, ◌∙◌}
use mathlib.Core.Bool.{Bool, ◌&&◌}
use native.Mathlib.Nat.{one-mul, mod-eq_of_lt}
use native.Mathlib.Omega.{arith}
use lib.Dec.{ltb}
use lib.ListN.{get_or}
use lib.Pow.{pow_mono, pow-lt}
use lib.Seq.{take_all}
use Rattle.base.specs.Lists.{every}
use Rattle.base.proofs.DigitLaws.{below_all}
use Rattle.base.proofs.ListLaws.{every_more}
use Rattle.pair_operands.proofs.all_fit.Goals as goal

-- the limit, as the shift gives it
abbrev limit : ℕ → ℕ
limit b = 1 * 2 ^ b % 2 ^ 8

limit_is : (b : ℕ) → b < 8 → limit b ≡ 2 ^ b
limit_is b h = ap (λ (x : ℕ). x % 2 ^ 8) (one-mul (2 ^ b)) ∙ mod-eq_of_lt (pow-lt h)

pub returns-then-bits-ge8 : goal.returns-then-bits-ge8
returns-then-bits-ge8 c =
    let a = c.args in
    let wide : 2 ^ 8 ≤ 2 ^ a.bits = pow_mono c.if-bits-ge8.true in
    sym (below_all (2 ^ a.bits) a.xs.now (λ k h. omega (arith, c.type_inv.xs k)))

pub loop-x-init : goal.loop-x-init
unfolding every
loop-x-init c = refl

pub loop-x-preserved : goal.loop-x-preserved
loop-x-preserved c =
    let l = c.loop-x in
    let a = c.args in
    ap (λ (b : Bool). b && ltb (get_or a.xs.now l.x-index 0) (limit a.bits)) l.invariant
    ∙ sym (every_more (λ x. ltb x (limit a.bits)) a.xs.now l.x-index (omega arith))

pub returns : goal.returns
returns c =
    let a = c.args in
    let l = c.loop-x in
    l.invariant ∙ ap (every (λ x. ltb x (limit a.bits))) (take_all _ a.xs.now (omega arith))
    ∙ ap (λ (n : ℕ). every (λ x. ltb x n) a.xs.now) (limit_is a.bits c.if-bits-ge8.false)
