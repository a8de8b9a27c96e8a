-- `desk_slip::judged` meets its contract: the cut of the field that the input names.
use mathlib.Core.Path.{sym, ◌∙◌}
use mathlib.Core.Bool.{true, false}
use Rattle.desk_slip.proofs.SlipLaws.{cut_for}
use Rattle.desk_slip.proofs.judged.Goals as goal

pub returns-then-says_256 : goal.returns-then-says_256
returns-then-says_256 c =
    c.cut.ensures
    ∙ cut_for c.args.input.now true (sym c.says_256.ensures ∙ c.if-says_256.true)

pub returns-else-says_256 : goal.returns-else-says_256
returns-else-says_256 c =
    c.cut-else-says_256.ensures
    ∙ cut_for c.args.input.now false (sym c.says_256.ensures ∙ c.if-says_256.false)
