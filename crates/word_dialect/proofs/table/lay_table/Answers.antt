-- `word_dialect::table::lay_table` meets its contract. The loop's invariant: the runs of the codes below c are laid.
use mathlib.Core.Path.{◌≡◌, ◌∙◌}
use native.Mathlib.Omega.{arith}
use borrow.Author.Count.{below_none}
use Rattle.word_dialect.proofs.table.lay_table.Goals as goal

pub loop-c-init : goal.loop-c-init
loop-c-init c = below_none _

pub lay_code-requires : goal.lay_code-requires
lay_code-requires c =
    let l = c.loop-c in
    (omega arith, l.auto.table ∙ c.requires.0, c.requires.1, l.invariant)

pub loop-c-preserved : goal.loop-c-preserved
loop-c-preserved c = c.lay_code.ensures

pub returns : goal.returns
returns c =
    let e : c.loop-c.c ≡ 16 = omega arith in
    rw e at c.loop-c.invariant
