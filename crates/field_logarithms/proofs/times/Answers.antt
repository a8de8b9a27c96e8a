-- `field_logarithms::times` meets its contract: the lent table gives the product.
use mathlib.Core.Path.{◌∙◌}
use Rattle.field_logarithms.proofs.PowerLaws.{sum_within, sum_product}
use Rattle.field_logarithms.proofs.times.Goals as goal

pub product_of-requires : goal.product_of-requires
product_of-requires c =
    let by = c.requires in
    (by, sum_within by c.logarithm-i.ensures c.logarithm-j.ensures)

pub returns : goal.returns
returns c =
    c.product_of.ensures
    ∙ sum_product c.requires c.logarithm-i.ensures c.logarithm-j.ensures
