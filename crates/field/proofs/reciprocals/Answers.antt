-- `field::reciprocals` meets its contract: in the table of each field, entry a - 1 is an element whose product with a
-- is 1, for each a except zero. antt computes the products.
use mathlib.Core.Path.{refl}
use Rattle.base.specs.Lists.{every, values_from}
use Rattle.field.specs.Polynomial.{times_x, horner, times}
use Rattle.field.specs.declared.Field.TheVariants.{Gf32, Gf256}
use Rattle.field.proofs.Fields.{degree}
use Rattle.field.proofs.TableLaws.{table_of}
use Rattle.field.proofs.reciprocals.Goals as goal

pub returns-in-Gf32 : goal.returns-in-Gf32
unfolding every values_from times_x horner times
returns-in-Gf32 c = rw c.in-Gf32.is (table_of (degree Gf32) _ refl refl)

pub returns-in-Gf256 : goal.returns-in-Gf256
unfolding every values_from times_x horner times
returns-in-Gf256 c = rw c.in-Gf256.is (table_of (degree Gf256) _ refl refl)
