-- Comparing two pairs by columns gives the same as comparing them by rows, through the plain change of layout. So does
-- the test whether a pair comes back from a word. The identity matrix is the same list in both layouts.
use Prim.Native.Nat.{ℕ}
use mathlib.Core.Path.{◌≡◌, refl, sym, ap, ap₂, ◌∙◌}
use mathlib.Core.Bool.{Bool, ◌&&◌}
use mathlib.Core.List.{List, [], ◌∷◌}
use lib.ListN.{length}
use Rattle.base.specs.Lists.{values_from, equal}
use Rattle.base.proofs.ListLaws.{length_values}
use Rattle.field.specs.Binary.{Operations}
use Rattle.matrix.specs.Layout.{row_of, column_of, matrix_of}
use Rattle.matrix.specs.Product.{identity}
use Rattle.matrix.specs.ByRows.{turned, matrix_by_rows}
use Rattle.matrix.proofs.LayoutLaws.{length_matrix_of}
use Rattle.matrix.proofs.ChangeOfLayout.{comparison_turned}
use Rattle.pair.specs.declared.Pair.{Pair}
use Rattle.pair.specs.Action.{word_on, identity_with}
use Rattle.pair.specs.ByRows.{turned_pair, letter_by_rows, word_by_rows}
use Rattle.pair.proofs.ChangeOfLayout.{word_turned}
use Rattle.slip_cloaking.specs.Cloaking.{same_pair, does_come_back}

pub same_pair_turned : (p q : Pair) → length p.matrix ≡ 64 → length q.matrix ≡ 64
    → same_pair (turned_pair p) (turned_pair q) ≡ same_pair p q
unfolding same_pair turned_pair
same_pair_turned p q l l' =
    ap (λ (b : Bool). b && equal p.labels q.labels) (comparison_turned p.matrix q.matrix l l')

-- a word by rows leaves 64 entries
size_by_rows : (F : Operations) (ts w : List ℕ) (p : Pair) → length p.matrix ≡ 64
    → length (word_by_rows F ts w p).matrix ≡ 64
unfolding word_by_rows letter_by_rows matrix_by_rows
size_by_rows F ts [] p l = l
size_by_rows F ts (c ∷ w) p l = size_by_rows F ts w (letter_by_rows F ts c p) (length_values _ 0 64)

identity_size : length identity ≡ 64
unfolding identity
identity_size = length_matrix_of _

-- the identity matrix with a list
identity_turned : (labels : List ℕ) → turned_pair (identity_with labels) ≡ identity_with labels
unfolding turned_pair turned identity row_of column_of matrix_of values_from
identity_turned labels = refl

pub comes_back_turned : (F : Operations) (ts labels w : List ℕ)
    → does_come_back F ts labels w ≡ same_pair (word_by_rows F ts w (identity_with labels)) (identity_with labels)
unfolding does_come_back
comes_back_turned F ts labels w =
    let p = identity_with labels in
    let e = identity_turned labels in
    ap₂ (λ (p q : Pair). same_pair (word_on F ts w p) q) (sym e) (sym e)
    ∙ ap (λ (q : Pair). same_pair q (turned_pair p)) (word_turned F ts w p)
    ∙ same_pair_turned (word_by_rows F ts w p) p (size_by_rows F ts w p identity_size) identity_size
