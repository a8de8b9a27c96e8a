-- `word_dialect::table::artin_run` meets its contract by the shapes of runs.
use Rattle.word_dialect.proofs.TableLaws.{artin_inverse, artin_other}
use mathlib.Core.Path.{sym, ◌∙◌}
use Rattle.word_dialect.proofs.table.artin_run.Goals as goal

pub returns-then-is_inverse : goal.returns-then-is_inverse
returns-then-is_inverse c =
    artin_inverse _ _ c.requires (sym c.is_inverse.ensures ∙ c.if-is_inverse.true)

pub returns : goal.returns
returns c =
    artin_other _ _ c.requires (sym c.is_inverse.ensures ∙ c.if-is_inverse.false)
