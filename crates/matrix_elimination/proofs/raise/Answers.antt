-- `matrix_elimination::raise` meets its contract. The loop's invariant: in the columns before j the rows are exchanged
-- and the logarithms stored.
use Prim.Native.Nat.{ℕ, ◌+◌}
use mathlib.Core.Path.{◌≡◌, refl, ap, ◌∙◌}
use native.Mathlib.Omega.{arith}
use lib.ListN.{get_or, length-set}
use Rattle.field_logarithms.proofs.PowerLaws.{same_number, logarithms_next}
use Rattle.matrix.specs.Layout.{entry}
use Rattle.matrix.proofs.SweepLaws.{raised_start, raised_own, raised_next}
use Rattle.matrix_elimination.proofs.raise.Goals as goal

pub loop-j-init : goal.loop-j-init
loop-j-init c =
    let a = c.args in
    (raised_start a.n a.p a.m.now c.requires.0, refl, λ j h. absurd (omega arith))

pub loop-j-preserved : goal.loop-j-preserved
unfolding entry
loop-j-preserved c =
    let l = c.loop-j in
    let a = c.args in
    let own = ap (λ (k : ℕ). get_or l.m k 0) c.place-own.ensures.0 in (
      rw (c.place-own.ensures.0, c.place-last.ensures.0)
          (raised_next a.n a.p l.j a.m.now l.m (omega arith) (omega arith) (omega arith) l.invariant.0),
      length-set l.logs l.j _ ∙ l.invariant.1,
      logarithms_next a.table.now (entry a.m.now a.p) l.j l.logs _
          (omega (arith, l.invariant.1)) l.invariant.2
          (same_number
          (own ∙ raised_own a.n a.p l.j a.m.now l.m (omega arith) (omega arith) (omega arith)
          l.invariant.0) c.logarithm.ensures),
    )

pub returns : goal.returns
returns c =
    let l = c.loop-j in
    let e : l.j ≡ c.args.n + 1 = omega arith in
    (rw e at l.invariant.0, l.invariant.1, λ k h. l.invariant.2 k (omega arith))
