-- `handle_steps::turns::run` meets its contract. The loop's invariant: the row has a gap, no handle is before it, and
-- the steps that are left end as all steps on the word do. The measure is `work`, because a step may put all codes
-- after the gap again.
use Rattle.handle_row.specs.steps.Gaps.{gapped}
use Rattle.handle_steps.specs.steps.Runs.{Gap, SameRun, work}
use Rattle.handle_steps.proofs.turns.run.Given as goal

abbrev pub invariant-loop-s : goal.invariant-loop-s
invariant-loop-s l = Gap l.row l.latest l.before l.s.left l.s.right
    × SameRun l.s.steps (gapped l.row l.s.left l.s.right) l.limit (gapped l.initial.row 0 l.start)

abbrev pub decreases-loop-s : goal.decreases-loop-s
decreases-loop-s l = work l.s.steps l.s.right
