-- `matrix_elimination::pivot_row` meets its contract. The loop's invariant: column n is zero in the rows p to n.
use Prim.Native.Nat.{ℕ, ◌-◌, ◌<◌, ◌≤◌}
use mathlib.Core.Path.{◌≡◌, sym, ap, ◌∙◌}
use native.Mathlib.Omega.{arith}
use native.Mathlib.Decide.{ℕ_discrete}
use lib.ListN.{get_or}
use Rattle.matrix.specs.Layout.{entry}
use Rattle.matrix.proofs.SweepLaws.{pivot_found, pivot_zero}
use Rattle.matrix_elimination.proofs.pivot_row.Goals as goal

pub returns-then-m-place-ne0-clause-some : goal.returns-then-m-place-ne0-clause-some
unfolding entry
returns-then-m-place-ne0-clause-some c =
    let a = c.args in
    let l = c.loop-p in
    let column : ℕ → ℕ = λ i. entry a.m.now i a.n in
    let there = ap (λ (k : ℕ). get_or a.m.now k 0) c.place.ensures.0 in
    let other : column (l.p - 1) ≡ 0 → ⊥ = λ z. c.if-m-place-ne0.true (there ∙ z) in (
      pivot_found column a.n (l.p - 1) (omega arith) other (λ k h b. l.invariant k (omega arith) b),
      omega arith,
      other,
    )

-- one more row that is zero
next_zero : (column : ℕ → ℕ) (p n : ℕ) → 0 < p → column (p - 1) ≡ 0 → ((k : ℕ) → p ≤ k → k ≤ n → column k ≡ 0)
    → (k : ℕ) → p - 1 ≤ k → k ≤ n → column k ≡ 0
next_zero column p n pos z zeros k h b = at (ℕ_discrete k (p - 1))
  where
    at : Dec (k ≡ p - 1) → column k ≡ 0
    at (yes e) = ap column e ∙ z
    at (no d) = zeros k (omega arith) b

pub loop-p-preserved : goal.loop-p-preserved
unfolding entry
loop-p-preserved c =
    let a = c.args in
    let l = c.loop-p in
    let column : ℕ → ℕ = λ i. entry a.m.now i a.n in
    let there = ap (λ (k : ℕ). get_or a.m.now k 0) c.place.ensures.0 in
    next_zero column l.p a.n (omega arith) (sym there ∙ c.if-m-place-ne0.false) l.invariant

pub returns-clause-none : goal.returns-clause-none
returns-clause-none c =
    let a = c.args in
    pivot_zero (λ i. entry a.m.now i a.n) a.n (λ k b. c.loop-p.invariant k (omega arith) b)
