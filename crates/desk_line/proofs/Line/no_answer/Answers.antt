-- `desk_line::Line::no_answer` meets its contract.
use mathlib.Core.Path.{refl}
use Rattle.base.specs.Lists.{overlaid}
use Rattle.text.specs.Texts.{line}
use Rattle.desk_line.specs.Desk.{no_answer_line}
use Rattle.desk_line.proofs.Line.no_answer.Goals as goal

pub returns : goal.returns
unfolding no_answer_line line overlaid
returns c = record { bytes_are = refl; text_is = refl }
