-- `word_crossing::all_crossings` meets its contract: the word's refusal, or the numbers of all pairs.
use mathlib.Core.Path.{sym, ◌∙◌}
use Rattle.word_crossing.proofs.CrossingAnswer.{all_refused, all_answered}
use Rattle.word_crossing.proofs.all_crossings.Goals as goal

pub returns-then-refused-ne0 : goal.returns-then-refused-ne0
returns-then-refused-ne0 c =
    rw c.refused.ensures.0
    (all_refused c.args.word.now c.read_word-w.ensures.answer_is c.if-refused-ne0.true
    c.refused.ensures.1)

pub returns : goal.returns
returns c =
    all_answered c.args.word.now (sym c.read_word-w.ensures.answer_is ∙ c.if-refused-ne0.false)
    c.numbers-numbers.ensures
