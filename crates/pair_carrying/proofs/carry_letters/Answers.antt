-- `pair_carrying::carry_letters` meets its contract: `row` multiplies the letters in over the field that the match
-- finds.
use mathlib.Core.Path.{sym, ap, ◌∙◌}
use Rattle.field.specs.Fields.{operations}
use Rattle.field.specs.declared.Field.{Field}
use Rattle.field.specs.declared.Field.TheVariants.{Gf32, Gf256}
use Rattle.field.proofs.TableLaws.{lent}
use Rattle.pair.specs.Action.{pair_of, word_on}
use Rattle.pair_carrying.proofs.carry_letters.Goals as goal

pub row-requires : goal.row-requires
row-requires c =
    (lent Gf32 _ c.reciprocals-table.ensures, c.requires)

pub row-requires-in-Gf256 : goal.row-requires-in-Gf256
row-requires-in-Gf256 c =
    (lent Gf256 _ c.reciprocals-table-in-Gf256.ensures, c.requires)

pub returns-in-Gf32 : goal.returns-in-Gf32
returns-in-Gf32 c =
    let a = c.args in
    c.row.ensures
    ∙ ap (λ (f : Field). word_on (operations f) a.t_values.now a.codes.now
    (pair_of a.pair.matrix a.pair.labels))
    (sym c.in-Gf32.is)

pub returns-in-Gf256 : goal.returns-in-Gf256
returns-in-Gf256 c =
    let a = c.args in
    c.row-in-Gf256.ensures
    ∙ ap (λ (f : Field). word_on (operations f) a.t_values.now a.codes.now
    (pair_of a.pair.matrix a.pair.labels))
    (sym c.in-Gf256.is)
