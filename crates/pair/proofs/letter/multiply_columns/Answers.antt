-- `pair::letter::multiply_columns` meets its contract: the product of the letter's own column, and what each neighbour
-- gains.
use mathlib.Core.Path.{◌∙◌}
use Rattle.pair.proofs.ColumnLaws.{by_sign}
use Rattle.pair.proofs.letter.multiply_columns.Goals as goal

pub returns : goal.returns
returns c =
    let a = c.args in
    record {
      nine = c.spread.ensures.places ∙ c.requires.0;
      exchanged = c.exchange.ensures;
      matrix_is = λ p degree t constants.
          by_sign a.bits p degree a.constants.now a.at t constants a.columns.now c.spread.new.columns
          a.g c.times-product.result
          c.requires.4 c.times-product.ensures a.inverse c.spread.ensures;
    }
