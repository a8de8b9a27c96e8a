-- The laws of rows, lifted to matrices by their entries, over any binary field. The shares of letters as the labels
-- change places.
use Prim.Native.Nat.{ℕ, ◌+◌, ◌<◌, ◌≤◌}
use mathlib.Core.Path.{◌≡◌, refl, sym, ◌∙◌}
use mathlib.Core.Bool.{Bool, true, false, not}
use mathlib.Core.List.{List}
use native.Mathlib.Omega.{arith}
use lib.ListN.{length, get_or}
use Rattle.field.specs.Binary.{Operations, BinaryField}
use Rattle.matrix.specs.Layout.{entry, Matrix}
use Rattle.word.specs.Strands.{swapped}
use Rattle.pair.specs.Action.{Share, t_value, share_of, row_after, rows_on}
use Rattle.pair.specs.Good.{TValues}
use Rattle.matrix.proofs.LayoutLaws.{length_matrix_of, entry_matrix_of, matrix_ext, entry_below, matrix_of_good}
use Rattle.word.proofs.StrandLaws.{length_swapped, swapped_first, swapped_second, swapped_other}
use Rattle.pair.proofs.RowLaws.{
  row_after_same,
  row_after_below,
  row_far,
  Keeps,
  positive_keeps,
  inverse_keeps,
  Undoes,
  row_undone,
  positive_undone,
  inverse_undone,
}
use Rattle.pair.proofs.RowBraid.{Braids, row_braid, positive_braids, inverse_braids}

-- row r of the matrix after a letter is row r after the letter
entry_after : (F : Operations) (s : Share) (g : ℕ) (m : List ℕ) (r : ℕ) (row : ℕ → ℕ) → g < 8 → r < 8
    → ((c : ℕ) → c < 8 → entry m r c ≡ row c) → (c : ℕ) → c < 8 → entry (rows_on F s g m) r c ≡ row_after F s g row c
entry_after F s g m r row hg hr equal c hc =
    entry_matrix_of (λ i. row_after F s g (entry m i)) r c hr hc
    ∙ row_after_same F s g c (entry m r) row (equal c hc) (equal g hg)

pub length_after : (F : Operations) (s : Share) (g : ℕ) (m : List ℕ) → length (rows_on F s g m) ≡ 64
length_after F s g m = length_matrix_of (λ r. row_after F s g (entry m r))

pub two_after : (F : Operations) (s t : Share) (g k : ℕ) (m : List ℕ) (r : ℕ) → g < 8 → k < 8 → r < 8 → (c : ℕ) → c < 8
    → entry (rows_on F t k (rows_on F s g m)) r c ≡ row_after F t k (row_after F s g (entry m r)) c
two_after F s t g k m r hg hk hr =
    entry_after F t k (rows_on F s g m) r (row_after F s g (entry m r)) hk hr
    (entry_after F s g m r (entry m r) hg hr (λ c h. refl))

-- the shares of letters take elements to elements
pub share_keeps : {F : Operations} → BinaryField F → (ts labels : List ℕ) (inverse : Bool) (g : ℕ)
    → Keeps F (share_of F ts labels inverse g)
unfolding share_of
share_keeps {F} L ts labels true g = inverse_keeps L (F.inv (t_value ts labels (g + 1)))
share_keeps {F} L ts labels false g = positive_keeps L (t_value ts labels g)

pub rows_good : {F : Operations} → BinaryField F → (s : Share) (g : ℕ) (m : List ℕ) → Keeps F s
    → ((k : ℕ) → get_or m k 0 < F.size)
    → Matrix F.size (rows_on F s g m)
rows_good {F} L s g m keeps below =
    matrix_of_good (λ r. row_after F s g (entry m r)) L.zero_below
    (λ r c hr hc. row_after_below L s g c (entry m r) keeps (entry_below m r c below) (entry_below m r g below))

-- the share of the inverse letter undoes the share of the letter
pub share_undone : {F : Operations} → BinaryField F → (ts labels : List ℕ) (inverse : Bool) (g : ℕ)
    → g + 1 < length labels
    → TValues F ts → ((k : ℕ) → get_or labels k 0 < 8)
    → Undoes F (share_of F ts labels inverse g) (share_of F ts (swapped g labels) (not inverse) g)
unfolding share_of t_value
share_undone L ts labels true g h good below =
    rw (swapped_first g labels h)
    (inverse_undone L (t_value ts labels (g + 1)) (good.above_zero _ (below (g + 1)))
    (good.below_size _ (below (g + 1))))
share_undone L ts labels false g h good below =
    rw (swapped_second g labels h)
    (positive_undone L (t_value ts labels g) (good.above_zero _ (below g)) (good.below_size _ (below g)))

pub rows_undone : {F : Operations} {s t : Share} → Undoes F s t → (g : ℕ) (m : List ℕ) → g < 8 → Matrix F.size m
    → rows_on F t g (rows_on F s g m) ≡ m
rows_undone {F} {s} {t} undoes g m h good =
    matrix_ext _ m (length_after F t g (rows_on F s g m)) good.size
    (λ r c hr hc. two_after F s t g g m r h h hr c hc
    ∙ row_undone F s t g (entry m r) c undoes (entry_below m r g good.below))

-- a letter has the same share after a far letter has exchanged its labels
pub share_far : (F : Operations) (ts labels : List ℕ) (inverse : Bool) (g k : ℕ) → (k ≡ g → ⊥) → (k ≡ g + 1 → ⊥)
    → (k + 1 ≡ g → ⊥)
    → share_of F ts (swapped g labels) inverse k ≡ share_of F ts labels inverse k
unfolding share_of t_value
share_far F ts labels inverse g k a b n =
    simp (swapped_other g labels k a b, swapped_other g labels (k + 1) n (omega arith))

pub rows_far : {F : Operations} → BinaryField F → (s t : Share) (g k : ℕ) (m : List ℕ) → g + 2 ≤ k → k < 8
    → rows_on F t k (rows_on F s g m) ≡ rows_on F s g (rows_on F t k m)
rows_far {F} L s t g k m f h =
    matrix_ext _ _ (length_after F t k (rows_on F s g m)) (length_after F s g (rows_on F t k m))
    (λ r c hr hc. two_after F s t g k m r (omega arith) h hr c hc
    ∙ row_far L s t g k (entry m r) c f
    ∙ sym (two_after F t s k g m r h (omega arith) hr c hc))

-- the shares of letters at g, g + 1, g and at g + 1, g, g + 1 satisfy the braid identities, as the labels change places
pub share_braids : {F : Operations} → BinaryField F → (ts labels : List ℕ) (inverse : Bool) (g : ℕ)
    → g + 2 < length labels
    → Braids F
    (share_of F ts labels inverse g)
    (share_of F ts (swapped g labels) inverse (g + 1))
    (share_of F ts (swapped (g + 1) (swapped g labels)) inverse g)
    (share_of F ts labels inverse (g + 1))
    (share_of F ts (swapped (g + 1) labels) inverse g)
    (share_of F ts (swapped g (swapped (g + 1) labels)) inverse (g + 1))
unfolding share_of t_value
share_braids {F} L ts l true g h =
    let low : g + 1 < length l = omega arith in
    let high : g + 1 + 1 < length l = omega arith in
    let high' : g + 1 + 1 < length (swapped g l) = omega (arith, length_swapped g l) in
    simp (
      swapped_other g l (g + 1 + 1) (omega arith) (omega arith),
      swapped_first (g + 1) (swapped g l) high',
      swapped_first (g + 1) l high,
      swapped_other g (swapped (g + 1) l) (g + 1 + 1) (omega arith) (omega arith),
      swapped_second (g + 1) l high,
    )
    (inverse_braids L (F.inv (t_value ts l (g + 1))) (F.inv (t_value ts l (g + 1 + 1))))
share_braids {F} L ts l false g h =
    let low : g + 1 < length l = omega arith in
    let low' : g + 1 < length (swapped (g + 1) l) = omega (arith, length_swapped (g + 1) l) in
    simp (
      swapped_second g l low,
      swapped_other (g + 1) (swapped g l) g (omega arith) (omega arith),
      swapped_first g l low,
      swapped_second g (swapped (g + 1) l) low',
      swapped_other (g + 1) l g (omega arith) (omega arith),
    )
    (positive_braids L (t_value ts l g) (t_value ts l (g + 1)))

three_after : (F : Operations) (p q r : Share) (g k : ℕ) (m : List ℕ) (i : ℕ) → g < 8 → k < 8 → i < 8 → (c : ℕ) → c < 8
    → entry (rows_on F r g (rows_on F q k (rows_on F p g m))) i c
    ≡ row_after F r g (row_after F q k (row_after F p g (entry m i))) c
three_after F p q r g k m i hg hk hi =
    entry_after F r g (rows_on F q k (rows_on F p g m)) i (row_after F q k (row_after F p g (entry m i))) hg hi
    (two_after F p q g k m i hg hk hi)

pub rows_braid : {F : Operations} {p q r u v w : Share} → Braids F p q r u v w → (g : ℕ) (m : List ℕ) → g + 1 < 8
    → rows_on F r g (rows_on F q (g + 1) (rows_on F p g m))
    ≡ rows_on F w (g + 1) (rows_on F v g (rows_on F u (g + 1) m))
rows_braid {F} {p} {q} {r} {u} {v} {w} b g m h =
    matrix_ext _ _ (length_after F r g (rows_on F q (g + 1) (rows_on F p g m)))
    (length_after F w (g + 1) (rows_on F v g (rows_on F u (g + 1) m)))
    (λ i c hi hc. three_after F p q r g (g + 1) m i (omega arith) h hi c hc
    ∙ row_braid b g (entry m i) c
    ∙ sym (three_after F u v w (g + 1) g m i h (omega arith) hi c hc))
