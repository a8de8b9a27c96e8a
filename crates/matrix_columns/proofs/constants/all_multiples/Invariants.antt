-- `matrix_columns::constants::all_multiples` meets its contract. The loop's invariant: the constants of the first a
-- numbers are stored.
use Rattle.field.specs.Polynomial.{polynomials}
use Rattle.matrix_columns.specs.steps.Constants.{AllFilled}
use Rattle.matrix_columns.proofs.constants.all_multiples.Given as goal

abbrev pub invariant-loop-a : goal.invariant-loop-a
invariant-loop-a l = AllFilled (polynomials l.bits l.modulus) l.bits l.numbers l.from l.a l.initial.list l.list
