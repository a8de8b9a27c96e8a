-- `arc_laying::crossed` meets its contract.
use native.Mathlib.Omega.{arith}
use Rattle.arc_laying.proofs.LayingLaws.{crosses}
use Rattle.arc_laying.proofs.crossed.Goals as goal

pub returns : goal.returns
returns c =
    let a = c.args in
    let s = a.s in
    let laid =
    crosses a.under a.p a.part.now a.out.now s.read s.written s.old s.new c.requires.0.laid a.d c.requires.1
    (omega arith) c.requires.2 c.if-s-d.false in (
      record { reads = omega arith; writes = omega arith; further = omega arith; laid = rw c.beside.ensures laid },
      omega arith,
      c.if-s-d.false,
    )
