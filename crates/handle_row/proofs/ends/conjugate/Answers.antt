-- `handle_row::ends::conjugate` meets its contract. The loop's invariant: what replaces the letters from k on is
-- written, and the letters before k are unchanged.
use Prim.Native.Nat.{ℕ, ◌-◌}
use mathlib.Core.Path.{◌≡◌, subst}
use native.Mathlib.Omega.{arith}
use Rattle.handle_row.proofs.EndLaws.{Written, none_written, all_written, has_room, one_written}
use Rattle.handle_row.proofs.ends.conjugate.Goals as goal

pub loop-k-init : goal.loop-k-init
loop-k-init c =
    none_written c.args.part.now c.args.n c.args.a c.requires.1 c.requires.2

pub replace-at-requires : goal.replace-at-requires
replace-at-requires c =
    let l = c.loop-k in
    let a = c.args in
    has_room a.part.now a.n a.a c.requires.1 c.requires.2 l.part l.k (l.k - 1) l.at l.invariant
    (omega arith) c.requires.0

pub loop-k-preserved : goal.loop-k-preserved
loop-k-preserved c =
    let r = c.replace-at in
    let l = c.loop-k in
    let a = c.args in
    one_written a.part.now a.n a.a c.requires.1 c.requires.2 l.part l.k (l.k - 1) l.at l.invariant
    (omega arith) r.new.part r.result r.auto.part r.ensures

pub returns : goal.returns
returns c =
    let l = c.loop-k in
    let a = c.args in
    let e : l.k ≡ 0 = omega arith in
    all_written a.part.now a.n a.a c.requires.1 c.requires.2
    (subst (λ (k : ℕ). Written a.part.now l.part a.n a.a k l.at) e l.invariant)
