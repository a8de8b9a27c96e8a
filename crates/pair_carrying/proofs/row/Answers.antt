-- `pair_carrying::row` meets its contract: the loop begins with the pair's columns and with every label at its own
-- place. It ends with the pair to which the letters carry the first.
use mathlib.Core.Path.{◌≡◌, ◌∙◌}
use borrow.Author.Rules.{rules}
use lib.ListN.{length}
use Rattle.base.specs.Lists.{values_from}
use Rattle.pair.proofs.NamedLabels.{begun, ended}
use Rattle.pair_carrying.proofs.row.Goals as goal

pub run-requires : goal.run-requires
unfolding values_from
run-requires c = (
  begun c.requires.0.narrow c.constants_by_place-constants.result c.columns_of-columns.result
      c.constants_by_place-constants.ensures.bytes c.columns_of-columns.ensures.0,
  c.requires.1,
)

pub returns : goal.returns
unfolding values_from
returns c =
    let labels_size : length c.args.pair.labels ≡ 8 = search rules in
    let a = c.args in
    c.pair_of.ensures
    ∙ ended c.requires.0.degree a.t_values.now a.pair.labels a.pair.matrix
    c.constants_by_place-constants.result a.codes.now c.columns_of-columns.result
    c.run.new.columns c.run.new.labels labels_size c.columns_of-columns.ensures.1
    c.constants_by_place-constants.ensures c.requires.1 c.run.ensures
