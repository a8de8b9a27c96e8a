-- `matrix_product::column_logarithms` meets its contract. The loop's invariant: the first k logarithms are stored.
use mathlib.Core.Path.{◌≡◌}
use lib.ListN.{length}
use Rattle.field_logarithms.specs.steps.Logarithms.{LogarithmsOf}
use Rattle.matrix.specs.Layout.{entry}
use Rattle.matrix_product.proofs.column_logarithms.Given as goal

abbrev pub invariant-loop-k : goal.invariant-loop-k
invariant-loop-k l = (length l.logs ≡ 8) × LogarithmsOf l.table (λ j. entry l.m j l.column) l.k l.logs
