-- `arc_strand::passed` meets its contract.
use mathlib.Core.Path.{◌∙◌}
use native.Mathlib.Omega.{arith}
use Rattle.arc_strand.proofs.StrandLaws.{own_right, own_left}
use Rattle.arc_strand.proofs.passed.Goals as goal

pub returns-then-c-rightward : goal.returns-then-c-rightward
returns-then-c-rightward c =
    own_right _ _ _ (omega arith) (c.if-c-rightward.true ∙ c.rightward.ensures)

pub returns-then-c-leftward : goal.returns-then-c-leftward
returns-then-c-leftward c =
    own_left _ _ _ (omega arith) (omega arith) (c.if-c-leftward.true ∙ c.leftward.ensures)
