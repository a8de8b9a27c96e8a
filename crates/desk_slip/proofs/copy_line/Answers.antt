-- `desk_slip::copy_line` meets its contract.
use native.Mathlib.Omega.{arith}
use borrow.Author.Tests.{not-true, not-false}
use Rattle.desk_slip.proofs.CopyLaws.{gives_verdicts, copy_read, copy_not_read}
use Rattle.desk_slip.proofs.Enough.{enough_of_files}
use Rattle.desk_slip.proofs.copy_line.Goals as goal

pub returns-then-not-w : goal.returns-then-not-w
returns-then-not-w c =
    let a = c.args in
    record {
      tells = copy_not_read a.made a.w a.word.now (not-true _ c.if-not-w.true) c.no_answer.ensures;
      gives_verdicts = gives_verdicts a.made;
      enough_of_files = enough_of_files 129 65 _ (omega arith) (omega arith) (omega arith);
    }

pub returns : goal.returns
returns c =
    let a = c.args in
    record {
      tells =
          copy_read a.made a.w a.word.now (not-false _ c.if-not-w.false) c.part.ensures c.copy_answer.ensures
          c.answer_line.ensures;
      gives_verdicts = gives_verdicts a.made;
      enough_of_files = enough_of_files 129 65 _ (omega arith) (omega arith) (omega arith);
    }
