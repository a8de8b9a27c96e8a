-- `desk_slip::files_line` meets its contract.
use native.Mathlib.Omega.{arith}
use Rattle.desk_slip.proofs.SlipLaws.{files_read, files_not_read}
use Rattle.desk_slip.proofs.Enough.{enough_of_files}
use Rattle.desk_slip.proofs.files_line.Goals as goal

pub returns-then-not-all_read : goal.returns-then-not-all_read
returns-then-not-all_read c =
    let a = c.args in
    record {
      tells =
          files_not_read a.k a.d a.w a.key.now a.digest.now a.word.now c.all_read.ensures
          c.if-not-all_read.true c.none.ensures.0 c.none.ensures.1;
      enough_of_files = enough_of_files _ _ _ (omega arith) (omega arith) (omega arith);
    }

pub returns : goal.returns
returns c =
    let a = c.args in
    record {
      tells =
          files_read a.k a.d a.w a.key.now a.digest.now a.word.now c.all_read.ensures
          c.if-not-all_read.false c.part-key.ensures c.part-digest.ensures c.part-word.ensures
          c.verify.ensures c.answer_line.ensures;
      enough_of_files = enough_of_files _ _ _ (omega arith) (omega arith) (omega arith);
    }
