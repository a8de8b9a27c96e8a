-- `handle_steps::turns::run` meets its contract. The loop's invariant: the row has a gap, no handle is before it, and
-- the steps that are left end as all steps on the word do. The measure is `work`, because a step may put all codes
-- after the gap again.
use native.Mathlib.Omega.{arith}
use Rattle.handle_steps.proofs.TurnLaws.{all_read}
use Rattle.handle_steps.proofs.turns.run.Goals as goal

pub returns : goal.returns
returns c =
    let l = c.loop-s in
    all_read l.row l.latest l.before l.s.left l.s.right c.args.limit l.s.steps _
    l.invariant.0 (omega (arith, c.loop-s-test.false)) l.invariant.1
