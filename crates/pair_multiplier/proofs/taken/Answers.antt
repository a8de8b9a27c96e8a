-- `pair_multiplier::taken` meets its contract: each sign reads its own label.
use Prim.Native.Nat.{ℕ}
use mathlib.Core.Path.{ap, ◌∙◌}
use Rattle.field.specs.Fields.{operations}
use Rattle.pair.specs.Action.{t_value}
use Rattle.pair.specs.steps.Columns.{taken_by}
use Rattle.pair_multiplier.proofs.taken.Goals as goal

pub returns-then-negative : goal.returns-then-negative
unfolding taken_by t_value
returns-then-negative c =
    let a = c.args in
    rw c.if-negative.true
    (c.inverse_of.ensures ∙ ap (λ (x : ℕ). (operations a.f).inv x) c.value_of.ensures)

pub returns-else-negative : goal.returns-else-negative
unfolding taken_by t_value
returns-else-negative c = rw c.if-negative.false c.value_of-else-negative.ensures
