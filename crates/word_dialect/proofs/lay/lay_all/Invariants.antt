-- `word_dialect::lay::lay_all` meets its contract. The loop's invariant: the row starts with the runs of the codes
-- so far.
use mathlib.Core.Path.{◌≡◌}
use lib.ListN.{length, take}
use Rattle.word_dialect.specs.steps.Table.{laid}
use Rattle.word_dialect.proofs.lay.lay_all.Given as goal

abbrev pub invariant-loop-c : goal.invariant-loop-c
invariant-loop-c l =
    (l.at ≡ length (laid l.table (take l.c-index l.codes))) × (take l.at l.row ≡ laid l.table (take l.c-index l.codes))
