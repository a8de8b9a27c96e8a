-- `word_dialect::table::lay_table` meets its contract. The loop's invariant: the runs of the codes below c are laid.
use Rattle.word_dialect.specs.steps.Table.{HoldsRuns}
use Rattle.word_dialect.proofs.table.lay_table.Given as goal

abbrev pub invariant-loop-c : goal.invariant-loop-c
invariant-loop-c l = HoldsRuns l.way l.parts l.c l.table
