-- `arc_laying::lay` meets its contract. The loop's invariant: the letters read and the letters written are arcs with
-- the same start and the same other letters, and the plan has right places for the letters read.
use mathlib.Core.Path.{refl}
use native.Mathlib.Omega.{arith}
use Rattle.arc_laying.proofs.LayingLaws.{none_laid}
use Rattle.arc_laying.proofs.lay.Goals as goal

pub loop-out-init : goal.loop-out-init
loop-out-init c =
    let a = c.args in (
      omega arith,
      omega arith,
      refl,
      none_laid a.under a.p a.part.now a.out.now c.requires.0,
      λ k h. absurd (omega arith),
    )
