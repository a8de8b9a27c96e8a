-- `word::read::read_word` meets its contract: it returns no letters on a refusal, and the number that the file states
-- on answer 0.
use mathlib.Core.Path.{sym, ◌∙◌}
use Rattle.word.proofs.ReadLaws.{read_refused, read_accepted, accepted_word}
use Rattle.word.proofs.read.read_word.Goals as goal

pub returns-then-answer-ne0 : goal.returns-then-answer-ne0
returns-then-answer-ne0 c =
    read_refused c.args.file.now _ c.refused.ensures (sym c.word_answer-answer.ensures)
    c.if-answer-ne0.true

pub stated-letters-requires : goal.stated-letters-requires
stated-letters-requires c =
    (accepted_word c.args.file.now
    (sym c.word_answer-answer.ensures ∙ c.if-answer-ne0.false)).long

pub returns : goal.returns
returns c =
    read_accepted c.args.file.now
    (sym c.word_answer-answer.ensures ∙ c.if-answer-ne0.false) _
    c.stated-letters.ensures.0
