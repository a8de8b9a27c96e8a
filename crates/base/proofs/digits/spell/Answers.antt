-- `base::digits::spell` meets its contract. The loop's invariant: the last digits of the number stand from place i on,
-- and v is the rest of the number.
use Prim.Native.Nat.{ℕ, suc, ◌-◌}
use mathlib.Core.Path.{◌≡◌, refl, subst}
use native.Mathlib.Omega.{arith}
use lib.ListN.{drop, length-set}
use lib.Seq.{drop-length}
use Rattle.base.specs.Digits.{digits}
use Rattle.base.proofs.PackLaws.{spelled_more, spelled_rest, spelled_none}
use Rattle.base.proofs.digits.spell.Goals as goal

pub loop-i-init : goal.loop-i-init
unfolding digits
loop-i-init c =
    let a = c.args in
    (0, omega arith, refl, drop-length a.dst.now, spelled_none a.base a.number)

pub loop-i-preserved : goal.loop-i-preserved
loop-i-preserved c =
    let a = c.args in
    let l = c.loop-i in
    let n = l.invariant.0 in
    let i = l.i - 1 in
    let e : l.i ≡ suc i = omega arith in (
      suc n,
      omega arith,
      simp length-set l.invariant.2,
      spelled_more a.base a.number l.v n i l.dst (omega arith)
          (subst (λ (j : ℕ). drop j l.dst ≡ digits a.base n a.number) e l.invariant.3) l.invariant.4,
      spelled_rest a.base a.number l.v n l.invariant.4,
    )
