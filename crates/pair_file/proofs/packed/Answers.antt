-- `pair_file::packed` meets its contract: the loop begins with the pair's columns and with every label at its own
-- place. It ends with the pair to which the letters carry the first.
use mathlib.Core.Path.{◌≡◌, ◌∙◌}
use borrow.Author.Rules.{rules}
use lib.ListN.{length, take}
use Rattle.base.specs.Digits.{halves}
use Rattle.base.specs.Lists.{values_from}
use Rattle.pair.proofs.NamedLabels.{begun, ended}
use Rattle.pair_file.proofs.packed.Goals as goal

pub letters-requires : goal.letters-requires
unfolding values_from
letters-requires c = (
  begun c.requires.0.narrow c.constants_by_place-constants.result c.columns_of-columns.result
      c.constants_by_place-constants.ensures.bytes c.columns_of-columns.ensures.0,
  c.requires.1,
  c.requires.2,
)

pub returns : goal.returns
unfolding values_from
returns c =
    let labels_size : length c.args.pair.labels ≡ 8 = search rules in
    let a = c.args in
    c.pair_of.ensures
    ∙ ended c.requires.0.degree a.t_values.now a.pair.labels a.pair.matrix
    c.constants_by_place-constants.result (take a.n (halves a.part.now)) c.columns_of-columns.result
    c.letters.new.columns c.letters.new.labels labels_size c.columns_of-columns.ensures.1
    c.constants_by_place-constants.ensures c.requires.2 c.letters.ensures
