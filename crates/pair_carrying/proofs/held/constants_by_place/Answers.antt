-- `pair_carrying::held::constants_by_place` meets its contract: the constants are those of the T-values by place.
use Prim.Native.Nat.{ℕ}
use mathlib.Core.Path.{sym, ap, ◌∙◌}
use mathlib.Core.List.{List}
use lib.ListN.{get_or}
use Rattle.base.proofs.ListLaws.{get_d_values}
use Rattle.field.specs.steps.Reciprocals.{looked_up}
use Rattle.field.proofs.TableLaws.{inverse_at, lent_short}
use Rattle.pair_carrying.proofs.held.constants_by_place.Goals as goal

pub reciprocals_of-reciprocals-requires : goal.reciprocals_of-reciprocals-requires
reciprocals_of-reciprocals-requires c = lent_short c.requires

pub constants_of-requires : goal.constants_of-requires
constants_of-requires c =
    let numbers = c.values_at-numbers.result in
    let table = c.args.table.now in
    let lent = c.requires in (
      lent.narrow,
      lent.degree,
      λ a h. ap (λ (l : List ℕ). get_or l a 0) c.reciprocals_of-reciprocals.ensures
          ∙ get_d_values (λ k. looked_up table (get_or numbers k 0)) 8 a h
          ∙ inverse_at lent.degree table lent.reciprocals_are (get_or numbers a 0),
    )

pub returns : goal.returns
returns c =
    rw (sym c.values_at-numbers.ensures) c.constants_of.ensures
