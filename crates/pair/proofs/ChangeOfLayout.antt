-- Multiplication by columns equals multiplication by rows through the plain change of layout: a letter and a word, over
-- any operations.
use Prim.Native.Nat.{ℕ, ◌<◌}
use mathlib.Core.Path.{◌≡◌, refl, ap, ◌∙◌}
use mathlib.Core.List.{List, [], ◌∷◌}
use native.Mathlib.Omega.{arith}
use Rattle.field.specs.Binary.{Operations}
use Rattle.matrix.specs.Layout.{entry}
use Rattle.matrix.specs.ByRows.{turned, entry_by_rows}
use Rattle.matrix.proofs.LayoutLaws.{matrix_of_ext}
use Rattle.matrix.proofs.ChangeOfLayout.{entry_turned, matrix_turned}
use Rattle.word.specs.Letters.{generator, is_inverse}
use Rattle.word.specs.Strands.{swapped}
use Rattle.pair.specs.declared.Pair.{Pair}
use Rattle.pair.specs.Action.{Share, share_of, row_after, pair_of, letter_on, word_on}
use Rattle.pair.specs.ByRows.{turned_pair, letter_by_rows, word_by_rows}
use Rattle.pair.proofs.RowLaws.{row_after_same}

-- one letter
pub letter_turned : (F : Operations) (ts : List ℕ) (c : ℕ) (p : Pair)
    → letter_on F ts c (turned_pair p) ≡ turned_pair (letter_by_rows F ts c p)
unfolding letter_on letter_by_rows turned_pair
letter_turned F ts c p =
    let g = generator c in
    let hg : g < 8 = omega arith in
    let s : Share = share_of F ts p.labels (is_inverse c) g in
    let m = p.matrix in
    let rows : ℕ → ℕ → ℕ = λ r. row_after F s g (entry_by_rows m r) in
    ap (λ (m : List ℕ). pair_of m (swapped g p.labels))
    (matrix_of_ext (λ r. row_after F s g (entry (turned m) r)) rows
    (λ r j hr hj.
    row_after_same F s g j (entry (turned m) r) (entry_by_rows m r) (entry_turned m r j hr hj)
    (entry_turned m r g hr hg))
    ∙ matrix_turned rows)

-- a word
pub word_turned : (F : Operations) (ts w : List ℕ) (p : Pair)
    → word_on F ts w (turned_pair p) ≡ turned_pair (word_by_rows F ts w p)
unfolding word_on word_by_rows
word_turned F ts [] p = refl
word_turned F ts (c ∷ w) p = ap (word_on F ts w) (letter_turned F ts c p) ∙ word_turned F ts w (letter_by_rows F ts c p)
