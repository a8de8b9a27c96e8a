-- `slip_digest::append` meets its contract: three runs, each of which overwrites the excess of the last.
use Prim.Native.Nat.{ℕ, ◌-◌}
use mathlib.Core.Path.{◌≡◌, ap}
use native.Mathlib.Omega.{arith}
use Rattle.slip_digest.proofs.HalfByte.{over, braid_length, braid_short}
use Rattle.slip_digest.proofs.RunLaws.{appended}
use Rattle.slip_digest.proofs.append.Goals as goal

pub returns : goal.returns
returns c =
    let a = c.args in
    let o : 7 - c.selected-above.result ≡ over a.h = ap (λ (l : ℕ). 7 - l) c.selected-above.ensures.0 in
    rw (c.from.ensures, c.from-2.ensures, c.from-3.ensures) (
      omega (arith, braid_length a.h c.requires.0, o),
      omega (arith, braid_length a.h c.requires.0, braid_short a.h c.requires.0, o),
      appended a.h a.at (7 - c.selected-above.result) _ _ _ _ _ _ a.codes.now c.fill.new.run c.fill-2.new.run
          c.fill-3.new.run c.requires.0 o c.requires.1 (omega arith, omega arith, omega arith)
          (omega arith, omega arith, omega arith) c.fill.ensures c.fill-2.ensures c.fill-3.ensures,
    )
