-- `pair_powers::raise` meets its contract: three products of the own column, and three stores.
use Rattle.pair.proofs.ColumnLaws.{stored_in_order}
use Rattle.pair_powers.proofs.TableLaws.{raised}
use Rattle.pair_powers.proofs.raise.Goals as goal

pub returns : goal.returns
returns c =
    let a = c.args in
    let x = c.times-left.result in
    let y = c.times-own.result in
    let z = c.times-right.result in
    raised a.bits a.table.now a.at a.g a.columns.now _ x y z c.requires.4 c.requires.0
    (stored_in_order a.columns.now a.g x y z c.requires.0 c.requires.4)
    c.times-left.ensures c.times-own.ensures c.times-right.ensures
