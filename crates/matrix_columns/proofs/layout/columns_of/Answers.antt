-- `matrix_columns::layout::columns_of` meets its contract. The loop's invariant: the first c columns are loaded.
use mathlib.Core.Path.{◌≡◌, refl}
use native.Mathlib.Omega.{arith}
use Rattle.matrix_columns.proofs.ColumnLaws.{none_held, next_held, all_held}
use Rattle.matrix_columns.proofs.layout.columns_of.Goals as goal

pub loop-c-init : goal.loop-c-init
loop-c-init c = none_held c.args.m.now _ refl

pub loop-c-preserved : goal.loop-c-preserved
loop-c-preserved c =
    let l = c.loop-c in
    let m = c.args.m.now in
    next_held m l.c l.columns c.load.result (omega arith) c.load.ensures l.invariant

pub returns : goal.returns
returns c =
    let l = c.loop-c in
    let e : l.c ≡ 8 = omega arith in (
      l.invariant.places,
      all_held c.args.m.now l.columns c.requires (rw e at l.invariant),
    )
