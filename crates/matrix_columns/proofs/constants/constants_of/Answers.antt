-- `matrix_columns::constants::constants_of` meets its contract: it stores the constants of the T-values, then those of
-- the reciprocals.
use mathlib.Core.Path.{refl}
use native.Mathlib.Omega.{arith}
use Rattle.field.specs.Polynomial.{polynomials}
use Rattle.matrix_columns.proofs.ConstantLaws.{zero_bytes, both_rows}
use Rattle.matrix_columns.proofs.constants.constants_of.Goals as goal

pub all_multiples-requires : goal.all_multiples-requires
all_multiples-requires c = (refl, zero_bytes 128, omega arith, c.requires.0, c.requires.1)

pub returns : goal.returns
returns c =
    let a = c.args in
    both_rows (polynomials a.bits a.modulus) a.bits a.t_values.now a.reciprocals.now _
    c.all_multiples.new.list c.all_multiples-2.new.list
    c.requires.0 c.requires.2 c.all_multiples.ensures c.all_multiples-2.ensures
