-- `matrix_product::logarithms_of` meets its contract. The loop's invariant: the first i logarithms are stored.
use mathlib.Core.Path.{◌≡◌}
use lib.ListN.{length, get_or}
use Rattle.field_logarithms.specs.steps.Logarithms.{LogarithmsOf}
use Rattle.matrix_product.proofs.logarithms_of.Given as goal

abbrev pub invariant-loop-i : goal.invariant-loop-i
invariant-loop-i l = (length l.logs ≡ 64) × LogarithmsOf l.table (λ k. get_or l.m k 0) l.i l.logs
