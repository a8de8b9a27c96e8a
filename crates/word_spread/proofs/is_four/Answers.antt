-- `word_spread::is_four` meets its contract: it asks for four labels, then for labels below 4, then whether they
-- differ.
use mathlib.Core.Path.{sym, ◌∙◌}
use Rattle.word_spread.proofs.ListsOfFour.{not_four, not_small, small_four}
use Rattle.word_spread.proofs.is_four.Goals as goal

pub returns-then-labels-ne4 : goal.returns-then-labels-ne4
returns-then-labels-ne4 c = sym (not_four c.args.labels.now c.if-labels-ne4.true)

pub returns-then-not-all_small : goal.returns-then-not-all_small
returns-then-not-all_small c =
    sym (not_small c.args.labels.now c.if-labels-ne4.false
    (sym c.all_small.ensures ∙ c.if-not-all_small.true))

pub returns : goal.returns
returns c =
    c.all_differ.ensures
    ∙ sym (small_four c.args.labels.now c.if-labels-ne4.false
    (sym c.all_small.ensures ∙ c.if-not-all_small.false))
