-- `walnut::walnut_second_half` meets its contract: that of the second half, of the half with these parts.
use mathlib.Core.Path.{ap, ◌∙◌}
use Rattle.base.specs.Questions.{first_no}
use Rattle.field.specs.declared.Field.{Field}
use Rattle.slip_verdict.specs.Halves.{second_half_questions}
use Rattle.walnut.proofs.walnut_second_half.Goals as goal

pub returns : goal.returns
returns c =
    let a = c.args in
    c.second_half.ensures
    ∙ ap (λ (f : Field). first_no (second_half_questions
    (record { field = f; t_values = a.half.t_values; pair = a.half.pair; target = a.half.target })
    a.word.now)) c.field_of.ensures
