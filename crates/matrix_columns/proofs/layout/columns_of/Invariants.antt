-- `matrix_columns::layout::columns_of` meets its contract. The loop's invariant: the first c columns are loaded.
use Rattle.matrix_columns.proofs.ColumnLaws.{Holding}
use Rattle.matrix_columns.proofs.layout.columns_of.Given as goal

abbrev pub invariant-loop-c : goal.invariant-loop-c
invariant-loop-c l = Holding l.m l.c l.columns
