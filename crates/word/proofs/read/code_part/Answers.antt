-- `word::read::code_part` meets its contract: it returns the part after the two length bytes on answer 0, and the
-- empty part on a refusal.
use mathlib.Core.Path.{sym, ◌∙◌}
use Rattle.word.proofs.ReadLaws.{accepted_word, part_accepted, part_refused}
use Rattle.word.proofs.read.code_part.Goals as goal

pub slice_bounds-result-count : goal.slice_bounds-result-count
slice_bounds-result-count c =
    let a = c.args in
    (accepted_word a.file.now (sym c.read_word-w.ensures.answer_is ∙ c.if-w-eq0.true)).long

pub returns-then-w-eq0 : goal.returns-then-w-eq0
returns-then-w-eq0 c =
    let a = c.args in
    part_accepted a.file.now
    (sym c.read_word-w.ensures.answer_is ∙ c.if-w-eq0.true)

pub returns : goal.returns
returns c =
    let a = c.args in
    part_refused a.file.now
    (λ e. c.if-w-eq0.false (c.read_word-w.ensures.answer_is ∙ e))

pub slice_bounds-result-start : goal.slice_bounds-result-start
slice_bounds-result-start c = slice_bounds-result-count c
