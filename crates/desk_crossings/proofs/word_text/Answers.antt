-- `desk_crossings::word_text` meets its contract: no text, a refusal's line, or the lines of all pairs; and its buffer
-- is enough.
use native.Mathlib.Omega.{arith}
use borrow.Author.Tests.{not-true, not-false}
use Rattle.desk_crossings.proofs.CrossingText.{text_not_read, text_refused, text_accepted, accepted_numbers}
use Rattle.desk_crossings.proofs.CrossingText.{enough_of_word}
use Rattle.desk_crossings.proofs.word_text.Goals as goal

pub returns-then-not-got : goal.returns-then-not-got
returns-then-not-got c = record {
  tells_in =
      text_not_read c.args.got c.args.input.now (not-true _ c.if-not-got.true) c.none.ensures.0 c.none.ensures.1;
  enough_of_word = enough_of_word _ (omega arith);
}

pub returns-then-all-ne0 : goal.returns-then-all-ne0
returns-then-all-ne0 c = record {
  tells_in =
      text_refused c.args.got c.args.input.now (not-false _ c.if-not-got.false) c.part.ensures
      c.all_crossings-all.ensures
      c.if-all-ne0.true c.answer_text.ensures;
  enough_of_word = enough_of_word _ (omega arith);
}

pub lines-requires : goal.lines-requires
lines-requires c = accepted_numbers c.all_crossings-all.ensures c.if-all-ne0.false

pub returns : goal.returns
returns c = record {
  tells_in =
      text_accepted c.args.got c.args.input.now (not-false _ c.if-not-got.false) c.part.ensures
      c.all_crossings-all.ensures
      c.if-all-ne0.false c.lines.ensures;
  enough_of_word = enough_of_word _ (omega arith);
}
