-- `word_dialect::table::lay_code` meets its contract: the run of the code stands after the runs of the codes below it.
use native.Mathlib.Omega.{arith}
use Rattle.word.specs.Letters.{generator}
use Rattle.word_dialect.specs.Dialect.{run}
use Rattle.word_dialect.specs.steps.Table.{Steps}
use Rattle.word_dialect.proofs.PartLaws.{room_for_run}
use Rattle.word_dialect.proofs.TableLaws.{holds_more}
use Rattle.word_dialect.proofs.table.lay_code.Goals as goal

pub run_of-r-requires : goal.run_of-r-requires
run_of-r-requires c =
    let a = c.args in
    let r = room_for_run a.parts.now c.requires.2 (generator a.c) (omega arith) in
    (c.requires.0, omega (arith, r.0, c.following-n.ensures), omega (arith, r.1, c.following-n.ensures))

pub returns : goal.returns
unfolding run
returns c =
    let a = c.args in
    let run_is : Steps (run a.way a.parts.now a.c) c.run_of-r.result.first c.run_of-r.result.step
    c.run_of-r.result.number = rw c.following-n.ensures at c.run_of-r.ensures in
    holds_more a.way a.parts.now a.table.now c.lay_run.new.table a.c c.requires.0 c.lay_run.auto.table
    c.requires.1 c.lay_run.ensures.0 c.requires.3 run_is c.lay_run.ensures.1
