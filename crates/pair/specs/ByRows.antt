-- Letters and words on pairs whose matrix is held by rows. No contract cites this file. `ChangeOfLayout` compares
-- multiplication by columns with these definitions.
use Rattle.std.specs.Prelude.{ℕ, List, [], ◌∷◌}
use Rattle.field.specs.Binary.{Operations}
use Rattle.matrix.specs.ByRows.{turned, entry_by_rows, matrix_by_rows}
use Rattle.word.specs.Letters.{generator, is_inverse}
use Rattle.word.specs.Strands.{swapped}
use Rattle.pair.specs.declared.Pair.{Pair}
use Rattle.pair.specs.Action.{share_of, row_after, pair_of}

-- the change of layout of a pair: the matrix changes its layout, both lists stay
unfoldable pub turned_pair : Pair → Pair
turned_pair p = record { matrix = turned p.matrix; labels = p.labels; positions = p.positions }

-- one letter multiplied into a pair held by rows
unfoldable pub letter_by_rows : Operations → List ℕ → ℕ → Pair → Pair
letter_by_rows F ts c p =
    pair_of
    (matrix_by_rows
    (λ r. row_after F (share_of F ts p.labels (is_inverse c) (generator c)) (generator c) (entry_by_rows p.matrix r)))
    (swapped (generator c) p.labels)

-- A word carries a pair held by rows: its letters are multiplied into the pair, first to last, each into the pair that
-- the last one left.
unfoldable pub word_by_rows : Operations → List ℕ → List ℕ → Pair → Pair
word_by_rows F ts [] p = p
word_by_rows F ts (c ∷ w) p = word_by_rows F ts w (letter_by_rows F ts c p)
