-- E-multiplication over any field in which a + a = 0: letters and words multiplied into a pair (source 003, in document
-- 01's form, and document 02 §5). A pair has a matrix, a list of labels, and the inverse list of that list. Rows,
-- columns and places count from 0 here, so column g is the own column of the letter with generator number g + 1.
use Rattle.std.specs.Prelude.{ℕ, ◌+◌, Bool, cond, List, [], ◌∷◌, eqb, get_or}
use Rattle.field.specs.Binary.{Operations}
use Rattle.matrix.specs.Layout.{entry, matrix_of}
use Rattle.matrix.specs.Product.{identity}
use Rattle.word.specs.Letters.{generator, is_inverse}
use Rattle.pair.specs.declared.Pair.{Pair}
use Rattle.word.specs.Strands.{strands_in_order, swapped, inverse_list}

-- The share of a letter: three functions of an entry of the letter's own column. `before` is what the column before
-- gains, `own` is what the own column becomes, `after` is what the column after gains.
pub record Share : Type 0 where
  pub before : ℕ → ℕ
  pub own : ℕ → ℕ
  pub after : ℕ → ℕ

-- the T-value of the label at a place
unfoldable pub t_value : List ℕ → List ℕ → ℕ → ℕ
t_value ts labels place = get_or ts (get_or labels place 0) 0

-- Letter b_i takes t, the T-value of L(i). Column i - 1 gains t × old column i, column i becomes t × old column i,
-- column i + 1 gains old column i.
abbrev pub positive_share : Operations → ℕ → Share
positive_share F t = record { before = λ x. F.mul t x; own = λ x. F.mul t x; after = λ x. x }

-- The inverse letter takes s, the reciprocal of the T-value of L(i + 1). Column i - 1 gains old column i, column i
-- becomes s × old column i, column i + 1 gains s × old column i.
abbrev pub inverse_share : Operations → ℕ → Share
inverse_share F s = record { before = λ x. x; own = λ x. F.mul s x; after = λ x. F.mul s x }

-- the share of a letter, inverse or not, whose own column is g
unfoldable pub share_of : Operations → List ℕ → List ℕ → Bool → ℕ → Share
share_of F ts labels inverse g =
    cond inverse (inverse_share F (F.inv (t_value ts labels (g + 1)))) (positive_share F (t_value ts labels g))

-- One row after a letter whose own column is g, as a function from column to entry. For g = 0 there is no column
-- before.
unfoldable pub row_after : Operations → Share → ℕ → (ℕ → ℕ) → ℕ → ℕ
row_after F s g row c =
    cond (eqb (c + 1) g) (F.add (row c) (s.before (row g)))
    (cond (eqb c g) (s.own (row g))
    (cond (eqb c (g + 1)) (F.add (row c) (s.after (row g)))
    (row c)))

-- the matrix after a letter: `row_after` changes every row
abbrev pub rows_on : Operations → Share → ℕ → List ℕ → List ℕ
rows_on F s g m = matrix_of (λ r. row_after F s g (entry m r))

-- The pair of a matrix and a list. Its positions are the inverse list of the list.
abbrev pub pair_of : List ℕ → List ℕ → Pair
pair_of matrix labels = record { matrix = matrix; labels = labels; positions = inverse_list labels }

-- One letter, b_i or its inverse, multiplied into a pair. Every row changes by the letter's share. Then the labels at
-- positions i and i + 1 change places, and the inverse list changes with them.
unfoldable pub letter_on : Operations → List ℕ → ℕ → Pair → Pair
letter_on F ts c p =
    pair_of
    (rows_on F (share_of F ts p.labels (is_inverse c) (generator c)) (generator c) p.matrix)
    (swapped (generator c) p.labels)

-- A word carries a pair by multiplying its letters into it, first to last, each into the pair that the last one left.
-- The empty word leaves the pair.
unfoldable pub word_on : Operations → List ℕ → List ℕ → Pair → Pair
word_on F ts [] p = p
word_on F ts (c ∷ w) p = word_on F ts w (letter_on F ts c p)

-- the identity matrix with a list
abbrev pub identity_with : List ℕ → Pair
identity_with labels = pair_of identity labels

-- The starting pair is the identity matrix with the list 0 to 7.
unfoldable pub start : Pair
start = identity_with strands_in_order
