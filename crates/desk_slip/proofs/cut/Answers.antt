-- `desk_slip::cut` meets its contract.
use mathlib.Core.Path.{◌∙◌}
use Rattle.desk_slip.proofs.SlipLaws.{cut_parts}
use Rattle.desk_slip.proofs.cut.Goals as goal

pub returns : goal.returns
returns c =
    let a = c.args in
    c.verify.ensures
    ∙ cut_parts a.k a.d a.input.now c.part-key.ensures c.part-digest.ensures
    c.part-word.ensures
