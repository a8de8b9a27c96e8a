-- `matrix_elimination::raise` meets its contract. The loop's invariant: in the columns before j the rows are exchanged
-- and the logarithms stored.
use mathlib.Core.Path.{◌≡◌}
use lib.ListN.{length}
use Rattle.field_logarithms.specs.steps.Logarithms.{LogarithmsOf}
use Rattle.matrix.specs.Layout.{entry}
use Rattle.matrix.specs.steps.Sweeping.{Raised}
use Rattle.matrix_elimination.proofs.raise.Given as goal

abbrev pub invariant-loop-j : goal.invariant-loop-j
invariant-loop-j l = Raised l.n l.p l.j l.initial.m l.m × (length l.logs ≡ 8)
    × LogarithmsOf l.table (entry l.initial.m l.p) l.j l.logs
