-- `pair::letter::spread` meets its contract: three stores at three places, in an order that depends on the sign.
use Rattle.pair.proofs.ColumnLaws.{three_stored}
use Rattle.pair.proofs.letter.spread.Goals as goal

pub returns : goal.returns
returns c =
    let a = c.args in
    three_stored a.columns.now a.g a.column a.product c.requires.0 c.requires.1 a.inverse
    c.side-by.result
    c.side-by.ensures.0
