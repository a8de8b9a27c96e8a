-- `desk_slip::input_line` meets its contract.
use native.Mathlib.Omega.{arith}
use borrow.Author.Tests.{not-true, not-false}
use Rattle.desk_slip.proofs.SlipLaws.{input_read, input_not_read}
use Rattle.desk_slip.proofs.Enough.{enough_of_input}
use Rattle.desk_slip.proofs.input_line.Goals as goal

pub returns-then-not-got : goal.returns-then-not-got
returns-then-not-got c = record {
  tells =
      input_not_read c.args.got c.args.input.now (not-true _ c.if-not-got.true) c.none.ensures.0 c.none.ensures.1;
  enough_of_input = enough_of_input _ (omega arith);
}

pub returns : goal.returns
returns c = record {
  tells =
      input_read c.args.got c.args.input.now (not-false _ c.if-not-got.false) c.part.ensures c.judged.ensures
      c.answer_line.ensures;
  enough_of_input = enough_of_input _ (omega arith);
}
