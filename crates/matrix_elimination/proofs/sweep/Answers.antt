-- `matrix_elimination::sweep` meets its contract. The loop's invariant: the rows before i are swept.
use mathlib.Core.Path.{◌≡◌, sym}
use native.Mathlib.Omega.{arith}
use Rattle.field.specs.Fields.{operations}
use Rattle.field_logarithms.proofs.PowerLaws.{same_number}
use Rattle.matrix.proofs.SweepLaws.{swept_start, swept_next}
use Rattle.matrix_elimination.proofs.sweep.Goals as goal

pub loop-i-init : goal.loop-i-init
loop-i-init c =
    let a = c.args in
    swept_start (operations a.f) a.q a.n a.m.now c.requires.0

pub sweep_row-requires : goal.sweep_row-requires
sweep_row-requires c =
    let l = c.loop-i in (
      l.invariant.size,
      c.requires.1,
      λ j h. same_number (sym (l.invariant.rest c.args.n j (omega arith) (omega arith) (omega arith)))
          (c.requires.2 j h),
      omega arith,
      c.requires.3,
    )

pub loop-i-preserved : goal.loop-i-preserved
loop-i-preserved c =
    let l = c.loop-i in
    let a = c.args in
    swept_next (operations a.f) a.q a.n l.i a.m.now l.m _ (omega arith) (omega arith) l.invariant c.sweep_row.ensures

pub returns : goal.returns
returns c =
    let l = c.loop-i in
    let e : l.i ≡ c.args.n = omega arith in
    rw e at l.invariant
