-- `matrix_columns::times` meets its contract. The loop's invariant: the total is the product by the bits before i, and
-- the rest holds the bits from i on.
use Prim.Native.Nat.{◌+◌}
use lib.ListN.{get_or}
use Rattle.matrix_columns.proofs.TimesLaws.{Multiplied}
use Rattle.matrix_columns.proofs.times.Given as goal

abbrev pub invariant-loop-i : goal.invariant-loop-i
invariant-loop-i l = Multiplied (λ k. get_or l.constants (l.at + k) 0) l.column l.i l.total l.rest
