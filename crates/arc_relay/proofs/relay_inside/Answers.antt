-- `arc_relay::relay_inside` meets its contract.
use mathlib.Core.Logic.{inr}
use native.Mathlib.Omega.{arith}
use Rattle.arc_relay.proofs.RelayLaws.{is_replaced}
use Rattle.arc_relay.proofs.relay_inside.Goals as goal

pub returns : goal.returns
returns c =
    let a = c.args in
    let f = c.requires.0 in
    let laid = c.in-Some.ensures in
    let replace = c.replace in
    inr (is_replaced a.codes.now a.n a.b a.e f.start f.end f.in_row a.p c.in-Some.m
    a.under a.plan.now c.lay.new.out replace.new.part (omega arith) (omega (arith, laid.0, c.lay.auto.out, f.fits))
    replace.auto.part replace.ensures laid.1 laid.2)
