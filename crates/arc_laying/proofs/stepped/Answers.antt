-- `arc_laying::stepped` meets its contract.
use Prim.Native.Nat.{◌+◌, ◌-◌}
use mathlib.Core.Path.{refl}
use native.Mathlib.Omega.{arith}
use Rattle.braid_arcs.proofs.ArcLaws.{arc_end}
use Rattle.arc_strand.proofs.StrandLaws.{own_right, own_left}
use Rattle.arc_laying.proofs.LayingLaws.{writes_own}
use Rattle.arc_laying.proofs.stepped.Goals as goal

pub returns-then-s-t : goal.returns-then-s-t
returns-then-s-t c =
    let a = c.args in
    let s = a.s in
    let right = own_right a.under s.new c.rightward.result (omega arith) c.rightward.ensures in (
      record {
        reads = omega arith;
        writes = omega arith;
        further = omega arith;
        laid =
            writes_own a.under a.p a.part.now a.out.now s.read s.written s.old s.new
            c.requires.0.laid (s.new + 1) c.rightward.result (omega arith) right;
      },
      refl,
    )

pub leftward-requires : goal.leftward-requires
leftward-requires c =
    let e = arc_end c.requires.0.laid.is in omega arith

pub returns : goal.returns
returns c =
    let a = c.args in
    let s = a.s in
    let e = arc_end c.requires.0.laid.is in
    let left =
    own_left a.under s.new c.leftward.result (omega arith) (omega arith) c.leftward.ensures in (
      record {
        reads = omega arith;
        writes = omega arith;
        further = omega arith;
        laid =
            writes_own a.under a.p a.part.now a.out.now s.read s.written s.old s.new
            c.requires.0.laid (s.new - 1) c.leftward.result (omega arith) left;
      },
      refl,
    )
