-- `field::product` meets its contract: it multiplies in the field that the match finds.
use Rattle.field.proofs.product.Goals as goal

pub returns-in-Gf32 : goal.returns-in-Gf32
returns-in-Gf32 c = rw c.in-Gf32.is c.small_product.ensures

pub returns-in-Gf256 : goal.returns-in-Gf256
returns-in-Gf256 c = rw c.in-Gf256.is c.large_product.ensures
