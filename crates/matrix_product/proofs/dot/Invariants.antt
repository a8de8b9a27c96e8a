-- `matrix_product::dot` meets its contract. The loop's invariant: the total is the sum of the first k products.
use Prim.Native.Nat.{ℕ, ◌+◌}
use mathlib.Core.Path.{◌≡◌}
use mathlib.Core.List.{List}
use lib.ListN.{get_or}
use Rattle.field.specs.Fields.{operations}
use Rattle.matrix.specs.Layout.{entry}
use Rattle.matrix.specs.Product.{sum}
use Rattle.matrix_product.proofs.dot.Given as goal

-- the products of a row's entries and a column's entries, by their logarithms
abbrev pub terms : List ℕ → List ℕ → List ℕ → ℕ → ℕ → ℕ
terms table a b row = λ k. get_or table (256 + (entry a row k + get_or b k 0)) 0

abbrev pub invariant-loop-k : goal.invariant-loop-k
invariant-loop-k l = l.total ≡ sum (operations l.f) (terms l.table l.a l.b l.row) l.k
