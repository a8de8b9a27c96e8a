-- `desk_dialect::part_at` meets its contract: the text ends before the part, with it, or goes on after it.
use mathlib.Core.Path.{◌∙◌}
use native.Mathlib.Omega.{arith}
use Rattle.desk_dialect.proofs.ConvertingLaws.{no_part, last_part, comma_follows, other_follows}
use Rattle.desk_dialect.proofs.part_at.Goals as goal

pub returns-then-text-at : goal.returns-then-text-at
returns-then-text-at c = no_part _ _ c.if-text-at.true

pub returns-then-text-at-2 : goal.returns-then-text-at-2
returns-then-text-at-2 c = c.digit_of-digit.ensures ∙ last_part _ _ c.if-text-at-2.true

pub returns-then-text-at-eq44 : goal.returns-then-text-at-eq44
returns-then-text-at-eq44 c =
    c.digit_of-digit.ensures ∙ comma_follows _ _ (omega arith) c.if-text-at-eq44.true

pub returns : goal.returns
returns c = other_follows _ _ (omega arith) c.if-text-at-eq44.false
