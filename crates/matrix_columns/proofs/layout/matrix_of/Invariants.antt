-- `matrix_columns::layout::matrix_of` meets its contract. The loop's invariant: the first c columns are stored.
use Rattle.matrix_columns.proofs.ColumnLaws.{Restored}
use Rattle.matrix_columns.proofs.layout.matrix_of.Given as goal

abbrev pub invariant-loop-c : goal.invariant-loop-c
invariant-loop-c l = Restored l.columns l.c l.m
