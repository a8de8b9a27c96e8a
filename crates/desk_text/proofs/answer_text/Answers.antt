-- `desk_text::answer_text` meets its contract: the line goes to the front of a longer text.
use mathlib.Core.Path.{sym}
use native.Mathlib.Omega.{arith}
use lib.Seq.{length-take-le}
use Rattle.text.proofs.TextLaws.{told_within}
use Rattle.desk_text.proofs.AnswerText.{answer_told}
use Rattle.desk_text.proofs.answer_text.Goals as goal

pub shared_ref_as_front-put : goal.shared_ref_as_front-put
shared_ref_as_front-put c = omega (arith, told_within c.answer_line-line.ensures)

pub slice_bounds-put-end-2 : goal.slice_bounds-put-end-2
slice_bounds-put-end-2 c = sym (length-take-le _ _ (told_within c.answer_line-line.ensures))

pub returns : goal.returns
returns c =
    answer_told c.args.answer c.ranges.answer.fits c.answer_line-line.ensures
    c.put.ensures
