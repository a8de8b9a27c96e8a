-- `word_reader::kept` meets its contract: it returns the file itself on answer 0, and its empty part on a refusal.
use mathlib.Core.Path.{sym, ◌∙◌}
use Rattle.word_reader.proofs.CodeLaws.{opened_accepted, opened_refused}
use Rattle.word_reader.proofs.kept.Goals as goal

pub returns-then-w-eq0 : goal.returns-then-w-eq0
returns-then-w-eq0 c =
    let a = c.args in
    sym (opened_accepted a.file.now (sym c.read_word-w.ensures.answer_is ∙ c.if-w-eq0.true))

pub returns : goal.returns
returns c =
    let a = c.args in
    sym (opened_refused a.file.now
    (λ e. c.if-w-eq0.false (c.read_word-w.ensures.answer_is ∙ e)))
