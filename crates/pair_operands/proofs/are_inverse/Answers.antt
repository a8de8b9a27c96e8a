-- `pair_operands::are_inverse` meets its contract. The loop's invariant: the labels before place i are below 8, and
-- their positions are where they stand.
use Prim.Native.Nat.{ℕ, ◌+◌, ◌<◌}
use mathlib.Core.Path.{◌≡◌, sym}
use mathlib.Core.Bool.{false}
use mathlib.Core.List.{List}
use native.Mathlib.Decide.{ℕ_discrete}
use native.Mathlib.Omega.{arith}
use lib.ListN.{length, get_or}
use Rattle.base.proofs.ListLaws.{not_true_false}
use Rattle.word.specs.Strands.{are_inverse}
use Rattle.word.proofs.PositionLaws.{inverse_order, order_below, position_there, inverse_by_places}
use Rattle.pair_operands.proofs.are_inverse.Goals as goal

pub loop-i-init : goal.loop-i-init
loop-i-init c = λ k h. absurd (omega arith)

-- a place where the label or its position is wrong refutes the claim
refuted : (labels positions : List ℕ) → length labels ≡ 8 → (i : ℕ) → i < 8
    → ((get_or labels i 0 < 8) × (get_or positions (get_or labels i 0) 0 ≡ i + 1) → ⊥)
    → are_inverse labels positions ≡ false
refuted labels positions size i h wrong =
    not_true_false (are_inverse labels positions)
    (λ e.
    wrong (
      order_below labels (inverse_order labels positions size e) i,
      position_there labels positions size e i h,
    ))

pub returns-then-label-ge8 : goal.returns-then-label-ge8
returns-then-label-ge8 c =
    let l = c.loop-i in
    sym (refuted c.args.labels.now c.args.positions.now c.requires.0 l.i (omega arith)
    (λ p. let below = p.0 in omega (arith, below, c.if-label-ge8.true)))

pub returns-then-from-i : goal.returns-then-from-i
returns-then-from-i c =
    let l = c.loop-i in
    sym (refuted c.args.labels.now c.args.positions.now c.requires.0 l.i (omega arith)
    (λ p. let e = p.1 in c.if-from-i.true cc))

-- the places before i have the property, and then also place i
more : (labels positions : List ℕ) (i : ℕ)
    → ((k : ℕ) → k < i → (get_or labels k 0 < 8) × (get_or positions (get_or labels k 0) 0 ≡ k + 1))
    → get_or labels i 0 < 8 → get_or positions (get_or labels i 0) 0 ≡ i + 1
    → (k : ℕ) → k < i + 1 → (get_or labels k 0 < 8) × (get_or positions (get_or labels k 0) 0 ≡ k + 1)
more labels positions i before b e k h = at (ℕ_discrete k i)
  where
    at : Dec (k ≡ i) → (get_or labels k 0 < 8) × (get_or positions (get_or labels k 0) 0 ≡ k + 1)
    at (yes d) = rw d (b, e)
    at (no n) = before k (omega arith)

pub loop-i-preserved : goal.loop-i-preserved
loop-i-preserved c =
    let l = c.loop-i in
    let a = c.args in
    more a.labels.now a.positions.now l.i l.invariant (omega arith) cc

pub returns : goal.returns
returns c =
    let l = c.loop-i in
    sym (inverse_by_places c.args.labels.now c.args.positions.now c.requires.0 c.requires.1
    (λ i h. l.invariant i (omega arith)))
