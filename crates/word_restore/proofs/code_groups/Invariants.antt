-- `word_restore::code_groups` meets its contract. The loop's invariant: the codes of the first k groups stand at the
-- front, and the other codes are unchanged.
use mathlib.Core.Path.{◌≡◌}
use Rattle.base.specs.Lists.{overlaid}
use Rattle.word_restore.specs.steps.Restoring.{group_codes}
use Rattle.word_restore.proofs.code_groups.Given as goal

abbrev pub invariant-loop-k : goal.invariant-loop-k
invariant-loop-k l = l.codes ≡ overlaid (group_codes l.signs l.generators l.k) l.initial.codes
