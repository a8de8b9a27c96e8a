-- `matrix_elimination::sweep_row` meets its contract. The loop's invariant: the row's columns before j have gained the
-- products that the table gives for the logarithms.
use Prim.Native.Nat.{◌+◌}
use lib.ListN.{get_or}
use Rattle.field.specs.Fields.{operations}
use Rattle.matrix.specs.steps.Sweeping.{RowGained}
use Rattle.matrix_elimination.proofs.sweep_row.Given as goal

abbrev pub invariant-loop-j : goal.invariant-loop-j
invariant-loop-j l =
    RowGained (operations l.f) (λ c. get_or l.table (256 + (l.k + get_or l.row c 0)) 0) l.i l.j l.initial.m l.m
