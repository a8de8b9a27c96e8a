-- `matrix_columns::layout::store` meets its contract. The loop's invariant: the first r lanes are stored.
use Rattle.matrix_columns.proofs.ColumnLaws.{Storing}
use Rattle.matrix_columns.proofs.layout.store.Given as goal

abbrev pub invariant-loop-r : goal.invariant-loop-r
invariant-loop-r l = Storing l.x l.column l.r l.initial.m l.m l.rest
