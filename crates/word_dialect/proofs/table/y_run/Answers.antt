-- `word_dialect::table::y_run` meets its contract by the shapes of runs.
use Rattle.word_dialect.proofs.TableLaws.{y_inverse_last, y_inverse, y_last, y_other}
use mathlib.Core.Path.{sym, ◌∙◌}
use borrow.Author.Tests.{eq-eqb, ne_eqb}
use Rattle.word_dialect.proofs.table.y_run.Goals as goal

pub returns-then-n-eq0 : goal.returns-then-n-eq0
returns-then-n-eq0 c =
    y_inverse_last _ _ c.requires (sym c.is_inverse.ensures ∙ c.if-is_inverse.true)
    (eq-eqb _ 0 c.if-n-eq0.true)

pub returns-then-is_inverse : goal.returns-then-is_inverse
returns-then-is_inverse c =
    y_inverse _ _ c.requires (sym c.is_inverse.ensures ∙ c.if-is_inverse.true)
    (ne_eqb _ 0 c.if-n-eq0.false)

pub returns-then-n-eq0-2 : goal.returns-then-n-eq0-2
returns-then-n-eq0-2 c =
    y_last _ _ c.requires (sym c.is_inverse.ensures ∙ c.if-is_inverse.false)
    (eq-eqb _ 0 c.if-n-eq0-2.true)

pub returns : goal.returns
returns c =
    y_other _ _ c.requires (sym c.is_inverse.ensures ∙ c.if-is_inverse.false)
    (ne_eqb _ 0 c.if-n-eq0-2.false)
