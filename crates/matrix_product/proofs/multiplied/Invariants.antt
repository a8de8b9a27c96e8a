-- `matrix_product::multiplied` meets its contract. The loop's invariant: the columns before c hold the product.
use Prim.Native.Nat.{ℕ, ◌<◌}
use mathlib.Core.Path.{◌≡◌}
use lib.ListN.{length}
use Rattle.field.specs.Fields.{operations}
use Rattle.matrix.specs.Layout.{entry}
use Rattle.matrix.specs.Product.{row_by}
use Rattle.matrix_product.proofs.multiplied.Given as goal

abbrev pub invariant-loop-c : goal.invariant-loop-c
invariant-loop-c l = (length l.m ≡ 64)
    × ((r k : ℕ) → r < 8 → k < l.c → entry l.m r k ≡ row_by (operations l.f) 8 (entry l.a r) (entry l.b) k)
