-- `matrix_columns::layout::matrix_of` meets its contract. The loop's invariant: the first c columns are stored.
use mathlib.Core.Path.{◌≡◌, refl}
use native.Mathlib.Omega.{arith}
use Rattle.matrix_columns.proofs.ColumnLaws.{none_restored, next_restored, all_restored}
use Rattle.matrix_columns.proofs.layout.matrix_of.Goals as goal

pub loop-c-init : goal.loop-c-init
loop-c-init c = none_restored c.args.columns.now _ refl

pub store-requires : goal.store-requires
store-requires c = (c.loop-c.invariant.size, omega arith)

pub loop-c-preserved : goal.loop-c-preserved
loop-c-preserved c =
    let l = c.loop-c in
    let columns = c.args.columns.now in
    next_restored columns l.c l.m c.store.new.m (omega arith) c.store.ensures l.invariant

pub returns : goal.returns
returns c =
    let l = c.loop-c in
    let e : l.c ≡ 8 = omega arith in
    all_restored c.args.columns.now l.m (rw e at l.invariant)
