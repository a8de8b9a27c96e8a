-- `handle_row::places::cut` meets its contract. The loop's invariant: the tables are those of the first k places.
use Prim.Native.Nat.{ℕ, ◌+◌, ◌-◌}
use mathlib.Core.Path.{◌≡◌, subst}
use native.Mathlib.Omega.{arith}
use Rattle.handle_row.specs.steps.Gaps.{Tables}
use Rattle.handle_row.proofs.PlaceLaws.{tables_less}
use Rattle.handle_row.proofs.places.cut.Goals as goal

pub loop-k-init : goal.loop-k-init
loop-k-init c =
    (c.requires.0, omega arith, c.requires.3)

pub loop-k-preserved : goal.loop-k-preserved
loop-k-preserved c =
    let p = c.slot_of-s in
    let a = c.args in
    let k : ℕ = c.loop-k.k - 1 in
    let up : c.loop-k.k ≡ k + 1 = omega arith in (
      omega arith,
      omega arith,
      rw p.ensures.0
          (tables_less a.row.now c.loop-k.latest a.before.now k (omega (arith, p.ensures.0, p.ensures.1))
          (subst (λ (m : ℕ). Tables a.row.now c.loop-k.latest a.before.now m) up c.loop-k.invariant.2)),
    )

pub returns : goal.returns
returns c =
    let a = c.args in
    let e : c.loop-k.k ≡ a.from = omega arith in
    subst (λ (m : ℕ). Tables a.row.now c.loop-k.latest a.before.now m) e c.loop-k.invariant.2
