-- `matrix_product::fill_column` meets its contract. The loop's invariant: the rows before r are filled.
use Rattle.field.specs.Fields.{operations}
use Rattle.matrix_product.specs.steps.Multiplying.{row_by_logarithms, ColumnFilled}
use Rattle.matrix_product.proofs.fill_column.Given as goal

abbrev pub invariant-loop-r : goal.invariant-loop-r
invariant-loop-r l = ColumnFilled (row_by_logarithms (operations l.f) l.table l.a l.b) l.column l.r l.initial.m l.m
