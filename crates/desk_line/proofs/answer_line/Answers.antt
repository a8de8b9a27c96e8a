-- `desk_line::answer_line` meets its contract: the number and the line end go behind "answer ".
use native.Mathlib.Omega.{arith}
use Rattle.desk_line.proofs.DeskLaws.{line_fits, answer_told}
use Rattle.desk_line.proofs.answer_line.Goals as goal

pub decimal-bytes-requires : goal.decimal-bytes-requires
decimal-bytes-requires c =
    line_fits c.from.result (omega (arith, c.from.ensures, c.ranges.answer.fits))

pub returns : goal.returns
returns c = answer_told c.from.ensures c.decimal-bytes.ensures
