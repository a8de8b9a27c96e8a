-- `field::small::table` meets its contract: every entry of the table follows the polynomial's rule. antt computes the
-- rule at all 1,024 entries and compares.
use mathlib.Core.Path.{refl}
use Rattle.base.specs.Lists.{values_from}
use Rattle.field.specs.Polynomial.{times_x, horner, times}
use Rattle.field.proofs.small.table.Goals as goal

pub returns : goal.returns
unfolding values_from times_x horner times
returns c = refl
