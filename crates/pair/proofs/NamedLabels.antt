-- A word moves places of a list as it moves the labels that stand at these places. The T-values by place are those of
-- the labels at these places. The loop may therefore hold places, whatever the labels are.
use Prim.Native.Nat.{◌≤◌, ℕ, ◌+◌, ◌<◌}
use mathlib.Core.Path.{◌≡◌, refl, sym, ap, ap₂, ◌∙◌}
use mathlib.Core.Bool.{Bool, true, cond}
use mathlib.Core.List.{List, [], ◌∷◌}
use native.Mathlib.Omega.{arith}
use native.Mathlib.Decide.{ℕ_discrete}
use lib.ListN.{length, get_or}
use lib.Seq.{ext_get_or}
use Rattle.base.specs.Packing.{Below}
use Rattle.base.specs.Lists.{every, values, values_from}
use Rattle.base.proofs.DigitLaws.{all_below}
use Rattle.base.proofs.ListLaws.{and_left, and_right, length_values, get_d_values, values_of}
use Rattle.field.specs.Binary.{Operations}
use Rattle.field.specs.Polynomial.{Degree, polynomials}
use Rattle.matrix_columns.specs.steps.Lanes.{columns_matrix}
use Rattle.matrix_columns.specs.steps.Constants.{Constants}
use Rattle.word.specs.Letters.{is_letter, is_inverse, generator}
use Rattle.word.specs.Strands.{swapped}
use Rattle.word.proofs.LetterLaws.{generator_below}
use Rattle.word.proofs.StrandLaws.{length_swapped, swapped_first, swapped_second, swapped_other, swapped_below}
use Rattle.pair.specs.declared.Pair.{Pair}
use Rattle.pair.specs.Action.{Share, t_value, positive_share, inverse_share, share_of, rows_on, pair_of, letter_on}
use Rattle.pair.specs.Action.{word_on}
use Rattle.pair.specs.steps.Columns.{named, values_at, Held, Carried}

get_d_named : (names places : List ℕ) (k : ℕ) → k < 8 → get_or (named names places) k 0
    ≡ get_or names (get_or places k 0) 0
unfolding named
get_d_named names places k h = get_d_values (λ k. get_or names (get_or places k 0) 0) 8 k h

length_named : (names places : List ℕ) → length (named names places) ≡ 8
unfolding named
length_named names places = length_values (λ k. get_or names (get_or places k 0) 0) 0 8

-- if every place names itself, the names are the list
named_itself : (names : List ℕ) → length names ≡ 8 → named names (values (λ a. a) 8) ≡ names
unfolding named
named_itself names l =
    sym (values_of (λ k. get_or names (get_or (values (λ a. a) 8) k 0) 0) 8 names l
    (λ k h. ap (λ (j : ℕ). get_or names j 0) (sym (get_d_values (λ a. a) 8 k h))))

module _ (names : List ℕ) where
  -- two neighbours change places: exchanging names is exchanging places
  named_swapped : (g : ℕ) (places : List ℕ) → g < 7 → length places ≡ 8
      → swapped g (named names places) ≡ named names (swapped g places)
  named_swapped g places h l =
      ext_get_or 0 (swapped g (named names places)) (named names (swapped g places))
      (length_swapped g (named names places) ∙ length_named names places ∙ sym (length_named names (swapped g places)))
      (λ k b. at k (omega (arith, length_swapped g (named names places), length_named names places)) (ℕ_discrete k g)
      (ℕ_discrete k (g + 1)))
    where
      room : g + 1 < length (named names places)
      room = omega (arith, length_named names places)

      at : (k : ℕ) → k < 8 → Dec (k ≡ g) → Dec (k ≡ g + 1)
          → get_or (swapped g (named names places)) k 0 ≡ get_or (named names (swapped g places)) k 0
      at k b (yes e) d =
          rw e
          (swapped_first g (named names places) room ∙ get_d_named names places (g + 1) (omega arith)
          ∙ sym (get_d_named names (swapped g places) g (omega arith)
          ∙ ap (λ (j : ℕ). get_or names j 0) (swapped_first g places (omega arith))))
      at k b (no n) (yes e) =
          rw e
          (swapped_second g (named names places) room ∙ get_d_named names places g (omega arith)
          ∙ sym (get_d_named names (swapped g places) (g + 1) (omega arith)
          ∙ ap (λ (j : ℕ). get_or names j 0) (swapped_second g places (omega arith))))
      at k b (no n) (no m) =
          swapped_other g (named names places) k n m ∙ get_d_named names places k b
          ∙ sym (get_d_named names (swapped g places) k b
          ∙ ap (λ (j : ℕ). get_or names j 0) (swapped_other g places k n m))

  module _ (F : Operations) (ts : List ℕ) where
    -- the T-value of the name at a place is the T-value by place
    value_named : (places : List ℕ) (k : ℕ) → k < 8 → get_or places k 0 < 8
        → t_value ts (named names places) k ≡ t_value (values_at ts names) places k
    unfolding t_value
    value_named places k h b =
        ap (λ (j : ℕ). get_or ts j 0) (get_d_named names places k h)
        ∙ sym (get_d_values (λ j. get_or ts (get_or names j 0) 0) 8 (get_or places k 0) b)

    share_named : (places : List ℕ) (inverse : Bool) (g : ℕ) → g < 7 → ((k : ℕ) → get_or places k 0 < 8)
        → share_of F ts (named names places) inverse g ≡ share_of F (values_at ts names) places inverse g
    unfolding share_of
    share_named places inverse g h b =
        ap₂ (λ (x y : ℕ). cond inverse (inverse_share F (F.inv x)) (positive_share F y))
        (value_named places (g + 1) (omega arith) (b (g + 1))) (value_named places g (omega arith) (b g))

    letter_named : (c : ℕ) (m places : List ℕ) → is_letter c ≡ true → length places ≡ 8
        → ((k : ℕ) → get_or places k 0 < 8)
        → letter_on F ts c (pair_of m (named names places))
        ≡ pair_of (letter_on F (values_at ts names) c (pair_of m places)).matrix
        (named names (swapped (generator c) places))
    unfolding letter_on
    letter_named c m places e l b =
        ap₂ (λ (s : Share) (labels : List ℕ). pair_of (rows_on F s (generator c) m) labels)
        (share_named places (is_inverse c) (generator c) (generator_below c e) b)
        (named_swapped (generator c) places (generator_below c e) l)

    word_named : (w m places : List ℕ) → every is_letter w ≡ true → length places ≡ 8
        → ((k : ℕ) → get_or places k 0 < 8)
        → let q = word_on F (values_at ts names) w (pair_of m places) in
        pair_of q.matrix (named names q.labels) ≡ word_on F ts w (pair_of m (named names places))
    unfolding word_on letter_on every
    word_named [] m places e l b = refl
    word_named (c ∷ w) m places e l b =
        let letter = and_left (is_letter c) (every is_letter w) e in
        let g = generator c in
        word_named w (letter_on F (values_at ts names) c (pair_of m places)).matrix (swapped g places)
        (and_right (is_letter c) (every is_letter w) e)
        (length_swapped g places ∙ l) (swapped_below g places b)
        ∙ ap (word_on F ts w) (sym (letter_named c m places letter l b))

-- ---- the loop begins with every label at its own place

abbrev first : List ℕ
first = values (λ a. a) 8

first_below : (k : ℕ) → get_or first k 0 < 8
unfolding values_from every
first_below = all_below 8 first (omega arith) refl

pub begun : {bits : ℕ} → bits ≤ 8 → (cs columns : List ℕ) → Below 256 cs → length columns ≡ 9
    → Held bits cs columns first
unfolding values_from
begun narrow cs columns b l = record { small = narrow; bytes = b; nine = l; eight = refl; below = first_below }

-- the columns and the names at the places are the pair to which the word carries the first pair
pub ended : {bits p : ℕ} → Degree bits p → (ts names m cs w columns columns' places : List ℕ) → length names ≡ 8
    → columns_matrix columns ≡ m → Constants (polynomials bits p) bits (values_at ts names) cs
    → every is_letter w ≡ true → Carried bits cs w columns first columns' places
    → pair_of (columns_matrix columns') (named names places) ≡ word_on (polynomials bits p) ts w (pair_of m names)
unfolding values_from
ended {bits} {p} degree ts names m cs w columns columns' places l e constants letters carried =
    ap (λ (q : Pair). pair_of q.matrix (named names q.labels))
    (carried.carries p degree (values_at ts names) constants)
    ∙ word_named names (polynomials bits p) ts w (columns_matrix columns) first letters refl first_below
    ∙ ap₂ (λ (m labels : List ℕ). word_on (polynomials bits p) ts w (pair_of m labels)) e (named_itself names l)
