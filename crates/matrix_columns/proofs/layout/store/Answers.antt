-- `matrix_columns::layout::store` meets its contract. The loop's invariant: the first r lanes are stored.
use mathlib.Core.Path.{◌≡◌}
use native.Mathlib.Omega.{arith}
use Rattle.matrix_columns.proofs.ColumnLaws.{none_stored, next_stored, all_stored}
use Rattle.matrix_columns.proofs.layout.store.Goals as goal

pub loop-r-init : goal.loop-r-init
loop-r-init c = none_stored c.args.x c.args.column c.args.m.now c.requires.0

pub loop-r-preserved : goal.loop-r-preserved
loop-r-preserved c =
    let l = c.loop-r in
    let a = c.args in
    rw c.place.ensures.0 (next_stored a.x a.column l.r a.m.now l.m l.rest (omega arith) (omega arith) l.invariant)

pub returns : goal.returns
returns c =
    let l = c.loop-r in
    let a = c.args in
    let e : l.r ≡ 8 = omega arith in
    all_stored a.x a.column a.m.now l.m l.rest (rw e at l.invariant)
