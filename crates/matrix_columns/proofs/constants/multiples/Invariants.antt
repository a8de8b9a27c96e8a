-- `matrix_columns::constants::multiples` meets its contract. The loop's invariant: the first i constants are stored.
use Rattle.matrix_columns.proofs.ConstantLaws.{Filling}
use Rattle.matrix_columns.proofs.constants.multiples.Given as goal

abbrev pub invariant-loop-i : goal.invariant-loop-i
invariant-loop-i l = Filling l.bits l.modulus l.number l.at l.i l.initial.list l.list l.product
