-- `matrix_columns::layout::load` meets its contract. The loop's invariant: the lanes so far are the entries from row i
-- on.
use Prim.Native.Nat.{ℕ, ◌+◌, ◌-◌}
use mathlib.Core.Path.{◌≡◌, ap, ◌∙◌}
use native.Mathlib.Omega.{arith}
use lib.ListN.{get_or}
use Rattle.matrix.specs.Layout.{entry}
use Rattle.matrix_columns.proofs.ColumnLaws.{none_loaded, next_loaded, all_loaded, load_fits}
use Rattle.matrix_columns.proofs.layout.load.Goals as goal

pub loop-i-init : goal.loop-i-init
loop-i-init c = none_loaded c.args.m.now c.args.column

pub overflow_mul-x : goal.overflow_mul-x
overflow_mul-x c =
    let l = c.loop-i in
    let a = c.args in
    omega (arith, load_fits a.m.now a.column (8 - l.i) l.x 0 (omega arith) (omega arith) l.invariant)

pub overflow_add-x : goal.overflow_add-x
overflow_add-x c =
    let l = c.loop-i in
    let a = c.args in
    omega (arith, load_fits a.m.now a.column (8 - l.i) l.x c.from.result (omega arith) (omega arith) l.invariant)

pub loop-i-preserved : goal.loop-i-preserved
unfolding entry
loop-i-preserved c =
    let l = c.loop-i in
    let a = c.args in
    let row : l.i - 1 ≡ 7 - (8 - l.i) = omega arith in
    let next : 8 - l.i + 1 ≡ 8 - (l.i - 1) = omega arith in
    let there : c.from.result ≡ entry a.m.now (7 - (8 - l.i)) a.column =
    c.from.ensures ∙ ap (λ (k : ℕ). get_or a.m.now k 0) c.place.ensures.0
    ∙ ap (λ (r : ℕ). entry a.m.now r a.column) row in
    rw (← next)
    (next_loaded a.m.now a.column (8 - l.i) l.x c.from.result (omega arith) (omega arith) l.invariant there)

pub returns : goal.returns
returns c =
    let l = c.loop-i in
    let all : 8 - l.i ≡ 8 = omega arith in
    all_loaded c.args.m.now c.args.column l.x (rw all at l.invariant)
