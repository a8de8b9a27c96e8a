-- `word_dialect::table::run_of` meets its contract: one of the two runs.
use Rattle.word_dialect.proofs.table.run_of.Goals as goal

pub returns-then-way : goal.returns-then-way
returns-then-way c = rw c.if-way.true c.y_run.ensures

pub returns : goal.returns
returns c = rw c.if-way.false c.artin_run.ensures
