-- A pair as the loop over letters holds it: the matrix as eight columns of 64 bits, with a spare column in front. These
-- definitions are for the contracts of functions that are no operation of the papers.
use Rattle.std.specs.Prelude.{ℕ, ◌+◌, ◌*◌, ◌<◌, ◌≤◌, ◌≡◌, Bool, cond, List, ◌⊎◌, length, take, get_or}
use Rattle.std.specs.Int.Bits.{bit_xor}
use Rattle.base.specs.Packing.{Below}
use Rattle.base.specs.Lists.{values}
use Rattle.base.specs.Digits.{halves}
use Rattle.field.specs.Binary.{Operations}
use Rattle.field.specs.Polynomial.{Degree, polynomials}
use Rattle.matrix_columns.specs.steps.Lanes.{columns_matrix}
use Rattle.matrix_columns.specs.steps.Constants.{Multiples, OverFields}
use Rattle.word.specs.Strands.{swapped}
use Rattle.pair.specs.declared.Pair.{Pair}
use Rattle.pair.specs.Action.{Share, t_value, positive_share, inverse_share, rows_on, pair_of, word_on}

-- the pair that columns and labels hold
abbrev pub held_pair : List ℕ → List ℕ → Pair
held_pair columns labels = pair_of (columns_matrix columns) labels

-- The names that stand at eight places of a list. The loop holds such places instead of labels. They are places of the
-- list that the loop began with, so the loop works for any list.
unfoldable pub named : List ℕ → List ℕ → List ℕ
named names places = values (λ k. get_or names (get_or places k 0) 0) 8

-- the T-values of the labels at the eight places
abbrev pub values_at : List ℕ → List ℕ → List ℕ
values_at ts labels = values (t_value ts labels) 8

-- What the loop needs: entries of at most 8 bits, constants of one byte each, nine columns, and eight labels below 8.
pub record Held (bits : ℕ) (constants columns labels : List ℕ) : Type 0 where
  pub small : bits ≤ 8
  pub bytes : Below 256 constants
  pub nine : length columns ≡ 9
  pub eight : length labels ≡ 8
  pub below : (k : ℕ) → get_or labels k 0 < 8

-- Three columns after a letter whose own column is g: the column before has gained x, the own column is y, the column
-- after has gained z. The other columns are unchanged. A spare column stands in front, so column g stands at place g +
-- 1.
pub record Spread (x y z g : ℕ) (columns after : List ℕ) : Type 0 where
  pub places : length after ≡ length columns
  pub left : get_or after g 0 ≡ bit_xor (get_or columns g 0) x
  pub own : get_or after (g + 1) 0 ≡ y
  pub right : get_or after (g + 2) 0 ≡ bit_xor (get_or columns (g + 2) 0) z
  pub others : (k : ℕ) → (k < g) ⊎ (g + 2 < k) → get_or after k 0 ≡ get_or columns k 0

-- The share of a letter that takes the number t. A generator takes a T-value, an inverse letter the reciprocal of a
-- T-value.
unfoldable pub share_by : Operations → Bool → ℕ → Share
share_by F inverse t = cond inverse (inverse_share F t) (positive_share F t)

-- The number that a letter with own column g takes, where `inv` gives reciprocals. A generator takes the T-value of the
-- label at place g. An inverse letter takes the reciprocal of the T-value of the label at place g + 1.
unfoldable pub taken_by : (ℕ → ℕ) → List ℕ → List ℕ → Bool → ℕ → ℕ
taken_by inv ts labels inverse g = cond inverse (inv (t_value ts labels (g + 1))) (t_value ts labels g)

-- Columns and labels after a letter whose own column is g, over every field of polynomials, for every number t that the
-- letter may take. The constants of t begin at place `at`.
pub record ColumnsAfter (bits : ℕ) (constants : List ℕ) (at g : ℕ) (inverse : Bool)
    (columns labels columns' labels' : List ℕ) : Type 0 where
  pub nine : length columns' ≡ 9
  pub exchanged : labels' ≡ swapped g labels
  pub matrix_is : (p : ℕ) → Degree bits p → (t : ℕ) → Multiples (polynomials bits p) bits constants at t
      → columns_matrix columns'
      ≡ rows_on (polynomials bits p) (share_by (polynomials bits p) inverse t) g (columns_matrix columns)

-- After the word w the loop still has what it needs. Over every field of polynomials, w carries the pair of the old
-- columns and labels to the pair of the new ones.
pub record Carried (bits : ℕ) (constants w columns labels columns' labels' : List ℕ) : Type 0 where
  pub holds : Held bits constants columns' labels'
  pub carries : OverFields bits constants
      (λ F ts. held_pair columns' labels' ≡ word_on F ts w (held_pair columns labels))

-- What the first n packed letters leave. `WholeCarried` states what the letters of the first r bytes leave; fewer than
-- sixteen of the n letters are then left.
abbrev pub PackedCarried : ℕ → ℕ → List ℕ → List ℕ → List ℕ → List ℕ → List ℕ → List ℕ → Type 0
PackedCarried bits n part constants columns labels columns' labels' =
    Carried bits constants (take n (halves part)) columns labels columns' labels'

abbrev pub WholeCarried : ℕ → ℕ → ℕ → List ℕ → List ℕ → List ℕ → List ℕ → List ℕ → List ℕ → Type 0
WholeCarried bits n r part constants columns labels columns' labels' =
    (2 * r ≤ n) × (n < 2 * r + 16) × Carried bits constants (halves (take r part)) columns labels columns' labels'
