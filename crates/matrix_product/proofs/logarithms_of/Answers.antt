-- `matrix_product::logarithms_of` meets its contract. The loop's invariant: the first i logarithms are stored.
use mathlib.Core.Path.{refl, ◌∙◌}
use native.Mathlib.Omega.{arith}
use lib.ListN.{get_or, length-set}
use Rattle.field_logarithms.proofs.PowerLaws.{logarithms_next}
use Rattle.matrix_product.proofs.logarithms_of.Goals as goal

pub loop-i-init : goal.loop-i-init
loop-i-init c = (refl, λ k h. absurd (omega arith))

pub loop-i-preserved : goal.loop-i-preserved
loop-i-preserved c =
    let l = c.loop-i in
    let a = c.args in (
      length-set l.logs l.i _ ∙ l.invariant.0,
      logarithms_next a.table.now (λ k. get_or a.m.now k 0) l.i l.logs _ (omega (arith, l.invariant.0))
          l.invariant.1 c.logarithm.ensures,
    )

pub returns : goal.returns
returns c = let l = c.loop-i in (l.invariant.0, λ k h. l.invariant.1 k (omega arith))
