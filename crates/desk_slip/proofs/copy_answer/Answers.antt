-- `desk_slip::copy_answer` meets its contract.
use mathlib.Core.Path.{◌∙◌}
use native.Mathlib.Omega.{arith}
use Rattle.desk_slip.proofs.CopyLaws.{copy_refused, copy_judged}
use Rattle.desk_slip.proofs.copy_answer.Goals as goal

pub returns-then-refusal-ne0 : goal.returns-then-refusal-ne0
returns-then-refusal-ne0 c =
    let a = c.args in
    copy_refused a.made a.word.now (λ z. omega (arith, c.if-refusal-ne0.true, z))

pub returns : goal.returns
returns c =
    let a = c.args in
    c.second_half.ensures ∙ copy_judged a.made a.word.now c.if-refusal-ne0.false
