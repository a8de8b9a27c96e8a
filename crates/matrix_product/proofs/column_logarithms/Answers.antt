-- `matrix_product::column_logarithms` meets its contract. The loop's invariant: the first k logarithms are stored.
use Prim.Native.Nat.{ℕ}
use mathlib.Core.Path.{refl, ap, ◌∙◌}
use native.Mathlib.Omega.{arith}
use lib.ListN.{get_or, length-set}
use Rattle.field_logarithms.proofs.PowerLaws.{same_number, logarithms_next}
use Rattle.matrix.specs.Layout.{entry}
use Rattle.matrix_product.proofs.column_logarithms.Goals as goal

pub loop-k-init : goal.loop-k-init
loop-k-init c = (refl, λ k h. absurd (omega arith))

pub loop-k-preserved : goal.loop-k-preserved
unfolding entry
loop-k-preserved c =
    let l = c.loop-k in
    let a = c.args in (
      length-set l.logs l.k _ ∙ l.invariant.0,
      logarithms_next a.table.now (λ j. entry a.m.now j a.column) l.k l.logs _
          (omega (arith, l.invariant.0)) l.invariant.1
          (same_number (ap (λ (i : ℕ). get_or a.m.now i 0) c.place.ensures.0) c.logarithm.ensures),
    )

pub returns : goal.returns
returns c = let l = c.loop-k in (l.invariant.0, λ k h. l.invariant.1 k (omega arith))
