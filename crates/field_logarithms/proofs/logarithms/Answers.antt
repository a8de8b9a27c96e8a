-- `field_logarithms::logarithms` meets its contract: antt tests the table of each field at every entry.
use mathlib.Core.Path.{refl}
use Rattle.base.specs.Lists.{every, values_from}
use Rattle.field.specs.Polynomial.{times_x}
use Rattle.field.specs.declared.Field.TheVariants.{Gf32, Gf256}
use Rattle.field_logarithms.proofs.PowerLaws.{products_by}
use Rattle.field_logarithms.proofs.logarithms.Goals as goal

pub returns-in-Gf32 : goal.returns-in-Gf32
unfolding every values_from times_x
returns-in-Gf32 c = rw c.in-Gf32.is (products_by Gf32 31 _ (refl, refl, refl, refl, refl))

pub returns-in-Gf256 : goal.returns-in-Gf256
unfolding every values_from times_x
returns-in-Gf256 c = rw c.in-Gf256.is (products_by Gf256 255 _ (refl, refl, refl, refl, refl))
