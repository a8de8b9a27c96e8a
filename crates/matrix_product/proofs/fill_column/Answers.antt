-- `matrix_product::fill_column` meets its contract. The loop's invariant: the rows before r are filled.
use mathlib.Core.Path.{◌≡◌}
use native.Mathlib.Omega.{arith}
use Rattle.matrix_product.proofs.MultiplyLaws.{filled_start, filled_next}
use Rattle.matrix_product.proofs.fill_column.Goals as goal

pub loop-r-init : goal.loop-r-init
loop-r-init c = filled_start _ c.args.column c.args.m.now c.requires.0

pub dot-requires : goal.dot-requires
dot-requires c = let pre = c.requires in (pre.1, pre.2, pre.3, omega arith)

pub loop-r-preserved : goal.loop-r-preserved
loop-r-preserved c =
    let l = c.loop-r in
    let a = c.args in
    rw (c.dot.ensures, c.place.ensures.0)
    (filled_next _ a.column l.r a.m.now l.m (omega arith) (omega arith) l.invariant)

pub returns : goal.returns
returns c =
    let l = c.loop-r in
    let e : l.r ≡ 8 = omega arith in
    rw e at l.invariant
