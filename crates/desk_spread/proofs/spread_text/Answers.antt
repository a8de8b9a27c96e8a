-- `desk_spread::spread_text` meets its contract: a refusal's line, or the lines of all lists.
use Rattle.desk_spread.proofs.SpreadTexts.{text_refused, text_accepted, numbers_shown}
use Rattle.desk_spread.proofs.spread_text.Goals as goal

pub returns-then-all-ne0 : goal.returns-then-all-ne0
returns-then-all-ne0 c =
    text_refused c.args.length c.all_endings-all.ensures c.if-all-ne0.true c.answer_text.ensures

pub lines-requires : goal.lines-requires
lines-requires c =
    numbers_shown c.args.length c.all_endings-all.ensures c.if-all-ne0.false

pub returns : goal.returns
returns c =
    text_accepted c.args.length c.all_endings-all.ensures c.if-all-ne0.false c.lines.ensures
