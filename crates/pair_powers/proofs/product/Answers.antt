-- `pair_powers::product` meets its contract: the number stands in the lowest lane of a column.
use native.Mathlib.Omega.{arith}
use Rattle.pair_powers.proofs.TableLaws.{product_is}
use Rattle.pair_powers.proofs.product.Goals as goal

pub returns : goal.returns
returns c =
    let a = c.args in
    product_is a.bits a.constants.now a.at a.number c.times-product.result (omega arith)
    (rw c.from.ensures at c.times-product.ensures)
