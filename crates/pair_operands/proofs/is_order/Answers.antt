-- `pair_operands::is_order` meets its contract. The loop's invariant: the labels so far are below 8, and the
-- number counts them.
use Prim.Native.Nat.{ℕ, zero, suc, ◌+◌, ◌*◌, ◌%◌, ◌^◌, ◌≤◌, ◌<◌}
use mathlib.Core.Path.{◌≡◌, refl, sym, ap, subst, ◌∙◌}
use mathlib.Core.Bool.{true}
use mathlib.Core.List.{List}
use native.Mathlib.Omega.{arith}
use borrow.Author.Tests.{lt-ltb, le-ltb}
use lib.Dec.{eqb, ltb}
use lib.ListN.{take, get_or}
use lib.Seq.{take_all}
use Rattle.base.specs.Lists.{every, tally}
use Rattle.base.specs.Digits.{value}
use Rattle.base.proofs.ListLaws.{and_both, every_more, every_refuted}
use Rattle.pair_operands.proofs.CountLaws.{counted, counted_more, ones, order_counted, order_refuted}
use Rattle.pair_operands.proofs.is_order.Goals as goal

-- the shift loses no bit
shifted : (k : ℕ) → k < 8 → 1 * 2 ^ (8 * k) % 2 ^ 64 ≡ 256 ^ k
shifted zero h = refl
shifted (suc zero) h = refl
shifted (suc (suc zero)) h = refl
shifted (suc (suc (suc zero))) h = refl
shifted (suc (suc (suc (suc zero)))) h = refl
shifted (suc (suc (suc (suc (suc zero))))) h = refl
shifted (suc (suc (suc (suc (suc (suc zero)))))) h = refl
shifted (suc (suc (suc (suc (suc (suc (suc zero))))))) h = refl
shifted (suc (suc (suc (suc (suc (suc (suc (suc k)))))))) h = absurd (omega arith)

pub loop-label-init : goal.loop-label-init
unfolding every tally value
loop-label-init c = (refl, refl, omega arith)

pub returns-then-label-ge8 : goal.returns-then-label-ge8
returns-then-label-ge8 c =
    let l = c.loop-label in
    let labels = c.args.labels.now in
    sym (order_refuted labels (every_refuted (λ x. ltb x 8) labels l.label-index (omega arith)
    (le-ltb _ _ c.if-label-ge8.true)))

-- one label adds at most as much to the number as label 7 does
at_most : (k : ℕ) → k < 8 → 256 ^ k ≤ 72057594037927936
at_most zero h = omega arith
at_most (suc zero) h = omega arith
at_most (suc (suc zero)) h = omega arith
at_most (suc (suc (suc zero))) h = omega arith
at_most (suc (suc (suc (suc zero)))) h = omega arith
at_most (suc (suc (suc (suc (suc zero))))) h = omega arith
at_most (suc (suc (suc (suc (suc (suc zero)))))) h = omega arith
at_most (suc (suc (suc (suc (suc (suc (suc zero))))))) h = omega arith
at_most (suc (suc (suc (suc (suc (suc (suc (suc k)))))))) h = absurd (omega arith)

pub overflow_add-counts : goal.overflow_add-counts
overflow_add-counts c =
    let l = c.loop-label in
    omega (arith, l.invariant.2, shifted _ c.if-label-ge8.false, at_most _ c.if-label-ge8.false)

pub loop-label-preserved : goal.loop-label-preserved
loop-label-preserved c =
    let l = c.loop-label in
    let labels = c.args.labels.now in (
      every_more (λ x. ltb x 8) labels l.label-index (omega arith)
          ∙ and_both l.invariant.0 (lt-ltb _ _ c.if-label-ge8.false),
      ap (λ (x : ℕ). l.counts + x) (shifted _ c.if-label-ge8.false)
          ∙ ap (λ (n : ℕ). n + 256 ^ get_or labels l.label-index 0) l.invariant.1
          ∙ sym (counted_more labels l.label-index (omega arith) c.if-label-ge8.false),
      omega (arith, l.invariant.2, shifted _ c.if-label-ge8.false, at_most _ c.if-label-ge8.false),
    )

pub returns : goal.returns
returns c =
    let l = c.loop-label in
    let labels = c.args.labels.now in
    let all : take l.label-index labels ≡ labels = take_all l.label-index labels (omega arith) in
    ap (λ (n : ℕ). eqb n ones) (l.invariant.1 ∙ ap (λ (xs : List ℕ). counted xs) all)
    ∙ order_counted labels c.requires (subst (λ (xs : List ℕ). every (λ x. ltb x 8) xs ≡ true) all l.invariant.0)
