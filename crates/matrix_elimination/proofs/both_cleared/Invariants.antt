-- `matrix_elimination::both_cleared` meets its contract. The loop's invariant: each 7 by 7 matrix is invertible exactly
-- if the n by n matrix that is left of it is invertible.
use Prim.Native.Nat.{ℕ}
use mathlib.Core.Path.{◌≡◌}
use mathlib.Core.Bool.{Bool}
use mathlib.Core.List.{List}
use lib.ListN.{length}
use Rattle.field.specs.Fields.{operations}
use Rattle.field.specs.declared.Field.{Field}
use Rattle.matrix.specs.Layout.{entry}
use Rattle.matrix.specs.Elimination.{invertible}
use Rattle.matrix_elimination.proofs.both_cleared.Given as goal

abbrev pub has_inverse : Field → ℕ → List ℕ → Bool
has_inverse f n a = invertible (operations f) n (entry a)

abbrev pub invariant-loop-n : goal.invariant-loop-n
invariant-loop-n l = (length l.a ≡ 64) × (length l.b ≡ 64) × (has_inverse l.f 7 l.initial.a ≡ has_inverse l.f l.n l.a)
    × (has_inverse l.f 7 l.initial.b ≡ has_inverse l.f l.n l.b)
