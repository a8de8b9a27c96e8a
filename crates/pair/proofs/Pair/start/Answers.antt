-- `pair::Pair::start` meets its contract. The loop's invariant: the first i entries of the diagonal are 1.
use mathlib.Core.Path.{◌≡◌, refl, ap, ◌∙◌}
use mathlib.Core.List.{List, [], ◌∷◌}
use Prim.Native.Nat.{ℕ, ◌*◌}
use native.Mathlib.Numerals.{add-one}
use native.Mathlib.Omega.{arith}
use lib.ListN.{set}
use Rattle.base.specs.Lists.{values_from}
use Rattle.matrix.specs.Layout.{row_of, column_of, matrix_of}
use Rattle.matrix.specs.Product.{identity}
use Rattle.pair.specs.Action.{pair_of, start}
use Rattle.pair.proofs.Pair.start.Goals as goal
use Rattle.pair.proofs.Pair.start.Invariants.{diagonal}

pub loop-i-init : goal.loop-i-init
loop-i-init c = refl

pub loop-i-preserved : goal.loop-i-preserved
loop-i-preserved c =
    let l = c.loop-i in
    rw add-one (ap (λ (m : List ℕ). set m (9 * l.i) 1) l.invariant)

pub returns : goal.returns
unfolding values_from row_of column_of matrix_of identity start
returns c =
    let l = c.loop-i in
    let e : l.i ≡ 8 = omega arith in
    c.with.ensures ∙ ap (λ (m : List ℕ). pair_of m (0 ∷ 1 ∷ 2 ∷ 3 ∷ 4 ∷ 5 ∷ 6 ∷ 7 ∷ [])) (l.invariant ∙ ap diagonal e)
