-- `pair_multiplier::step` meets its contract: the multiplier works over the named field.
use Rattle.pair_multiplier.proofs.LentLaws.{kept, changed}
use Rattle.pair_multiplier.proofs.step.Goals as goal

pub returns-then-answer-ne0 : goal.returns-then-answer-ne0
returns-then-answer-ne0 c =
    kept (rw c.field_of-f.ensures at c.multiply-given.ensures) c.refused.ensures c.if-answer-ne0.true

pub returns : goal.returns
returns c = changed (rw c.field_of-f.ensures at c.multiply-given.ensures) c.if-answer-ne0.false
