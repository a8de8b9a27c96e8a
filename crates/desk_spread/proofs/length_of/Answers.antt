-- `desk_spread::length_of` meets its contract. The loop's invariant: the argument writes no length below n.
use Prim.Native.Nat.{◌-◌}
use mathlib.Core.Path.{◌≡◌, refl, sym, ◌∙◌}
use native.Mathlib.Omega.{arith}
use Rattle.desk_spread.specs.SpreadLines.{length_of}
use Rattle.desk_spread.proofs.SpreadTexts.{first_next, first_found, first_none}
use Rattle.desk_spread.proofs.length_of.Goals as goal

pub loop-n-init : goal.loop-n-init
unfolding length_of
loop-n-init c = refl

pub returns-then-writes : goal.returns-then-writes
returns-then-writes c =
    let l = c.loop-n in
    c.from.ensures ∙ sym (l.invariant ∙ first_found _ l.n (omega arith) (sym c.writes.ensures ∙ c.if-writes.true))

pub loop-n-preserved : goal.loop-n-preserved
loop-n-preserved c =
    let l = c.loop-n in
    l.invariant ∙ first_next _ l.n (omega arith) (sym c.writes.ensures ∙ c.if-writes.false)

pub returns : goal.returns
returns c =
    let l = c.loop-n in
    let all : l.n ≡ 13 = omega arith in
    sym (l.invariant ∙ first_none _ l.n all)
