-- `desk_slip::slip_line` meets its contract.
use native.Mathlib.Omega.{arith}
use Rattle.desk_slip.proofs.Enough.{enough_of_files}
use Rattle.desk_slip.proofs.CopyLaws.{slip_read, slip_not_read}
use Rattle.desk_slip.proofs.slip_line.Goals as goal

pub returns-then-not-all_read : goal.returns-then-not-all_read
returns-then-not-all_read c =
    let a = c.args in
    record {
      tells =
          slip_not_read a.k a.d a.w a.key.now a.digest.now a.word.now c.all_read.ensures
          c.if-not-all_read.true c.no_answer.ensures;
      enough_of_files = enough_of_files _ _ _ (omega arith) (omega arith) (omega arith);
    }

pub returns-clause-tells : goal.returns-clause-tells
returns-clause-tells c =
    let a = c.args in
    slip_read a.k a.d a.w a.key.now a.digest.now a.word.now c.all_read.ensures
    c.if-not-all_read.false c.files_line.ensures.tells
