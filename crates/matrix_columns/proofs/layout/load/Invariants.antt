-- `matrix_columns::layout::load` meets its contract. The loop's invariant: the lanes so far are the entries from row i
-- on.
use Prim.Native.Nat.{◌-◌}
use Rattle.matrix_columns.proofs.ColumnLaws.{Loaded}
use Rattle.matrix_columns.proofs.layout.load.Given as goal

abbrev pub invariant-loop-i : goal.invariant-loop-i
invariant-loop-i l = Loaded l.m l.column (8 - l.i) l.x
