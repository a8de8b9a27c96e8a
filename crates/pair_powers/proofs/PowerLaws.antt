-- An even power of a generator on a pair is one change of three columns, over any binary field. Two changes with the
-- same own column, one after the other, are one change. So a run of letters is one change, by adding letter after
-- letter.
use Prim.Native.Nat.{ℕ, zero, suc, ◌+◌, ◌*◌, ◌<◌}
use mathlib.Core.Path.{◌≡◌, refl, sym, ap, ap₂, ◌∙◌}
use mathlib.Core.Bool.{Bool, false, ◌&&◌}
use mathlib.Core.List.{List, [], ◌∷◌, ◌++◌}
use native.Mathlib.Nat.{mod-eq_of_lt}
use native.Mathlib.Omega.{arith}
use borrow.Author.Tests.{lt-leb}
use lib.Dec.{leb}
use lib.ListN.{length, get_or, replicate}
use Rattle.field.specs.Binary.{Operations, BinaryField}
use Rattle.field.proofs.Ring.{ring, add_zero, zero_mul}
use Rattle.matrix.specs.Layout.{entry}
use Rattle.matrix.proofs.LayoutLaws.{entry_matrix_of, matrix_ext, entry_below}
use Rattle.word.specs.Letters.{is_inverse, generator}
use Rattle.word.specs.Strands.{swapped}
use Rattle.word.proofs.StrandLaws.{swapped_first, swapped_twice}
use Rattle.pair.specs.declared.Pair.{Pair}
use Rattle.pair.specs.Action.{Share, t_value, share_of, positive_share, row_after, rows_on, pair_of, letter_on, word_on}
use Rattle.pair.specs.Good.{GoodPair}
use Rattle.pair.proofs.RowLaws.{Near, before, own, after, other, near, placed, row_after_is}
use Rattle.pair.proofs.ShareLaws.{two_after, length_after}
use Rattle.pair.proofs.WordLaws.{word_on_append}
use Rattle.pair_powers.specs.declared.Gains.{Gains}
use Rattle.pair_powers.specs.steps.Powers.{share_of_gains, no_gains, one_more, power_gains}

-- the share u does at once what s and then t do
record Composes (F : Operations) (s t u : Share) : Type 0 where
  left : (y : ℕ) → F.add (s.before y) (t.before (s.own y)) ≡ u.before y
  mid : (y : ℕ) → t.own (s.own y) ≡ u.own y
  right : (y : ℕ) → F.add (s.after y) (t.after (s.own y)) ≡ u.after y

-- after an exchange the T-value of the second label stands first
value_after : (g : ℕ) (ts labels : List ℕ) → g + 1 < length labels
    → t_value ts (swapped g labels) g ≡ t_value ts labels (g + 1)
unfolding t_value
value_after g ts labels h = ap (λ (a : ℕ). get_or ts a 0) (swapped_first g labels h)

module _ {F : Operations} (L : BinaryField F) where
  placed_then : {s t u : Share} → Composes F s t u → {c g : ℕ} (n : Near c g) (x y : ℕ)
      → placed F t n (placed F s n x y) (s.own y) ≡ placed F u n x y
  placed_then {s} {t} m (before e) x y =
      L.add_assoc x (s.before y) (t.before (s.own y)) ∙ ap (F.add x) (m.left y)
  placed_then m (own e) x y = m.mid y
  placed_then {s} {t} m (after e) x y =
      L.add_assoc x (s.after y) (t.after (s.own y)) ∙ ap (F.add x) (m.right y)
  placed_then m (other a b n) x y = refl

  row_then : {s t u : Share} → Composes F s t u → (g : ℕ) (row : ℕ → ℕ) (c : ℕ)
      → row_after F t g (row_after F s g row) c ≡ row_after F u g row c
  row_then {s} {t} {u} m g row c =
      let n : Near c g = near c g in
      row_after_is F t n (row_after F s g row)
      ∙ ap₂ (placed F t n) (row_after_is F s n row) (row_after_is F s (own refl) row)
      ∙ placed_then m n (row c) (row g)
      ∙ sym (row_after_is F u n row)

  -- two changes with the same own column are one
  rows_then : {s t u : Share} → Composes F s t u → (g : ℕ) (m : List ℕ) → g < 8
      → rows_on F t g (rows_on F s g m) ≡ rows_on F u g m
  rows_then {s} {t} {u} k g m h =
      matrix_ext _ _ (length_after F t g (rows_on F s g m)) (length_after F u g m)
      (λ r c hr hc. two_after F s t g g m r h h hr c hc
      ∙ row_then k g (entry m r) c
      ∙ sym (entry_matrix_of (λ i. row_after F u g (entry m i)) r c hr hc))

  -- a run of no letters changes nothing
  none_placed : {c g : ℕ} (n : Near c g) (row : ℕ → ℕ) → row g < F.size
      → placed F (share_of_gains F no_gains) n (row c) (row g) ≡ row c
  none_placed {c} {g} (before e) row h =
      ap (F.add (row c)) (zero_mul L (row g)) ∙ add_zero L (row c)
  none_placed (own e) row h = L.one_mul h ∙ ap row (sym e)
  none_placed {c} {g} (after e) row h =
      ap (F.add (row c)) (zero_mul L (row g)) ∙ add_zero L (row c)
  none_placed (other a b n) row h = refl

  rows_none : (g : ℕ) (m : List ℕ) → g < 8 → length m ≡ 64 → ((k : ℕ) → get_or m k 0 < F.size)
      → rows_on F (share_of_gains F no_gains) g m ≡ m
  rows_none g m h size below =
      matrix_ext _ m (length_after F (share_of_gains F no_gains) g m) size
      (λ r c hr hc. entry_matrix_of (λ i. row_after F (share_of_gains F no_gains) g (entry m i)) r c hr hc
      ∙ row_after_is F (share_of_gains F no_gains) (near c g) (entry m r)
      ∙ none_placed (near c g) (entry m r) (entry_below m r g below))

  -- a run with one more letter, which takes t
  more_composes : (t : ℕ) (n : Gains)
      → Composes F (share_of_gains F n) (positive_share F t) (share_of_gains F (one_more F t n))
  unfolding one_more
  more_composes t n = record { left = λ y. simp ring; mid = λ y. simp ring; right = λ y. simp ring }

  module _ (ts : List ℕ) (g : ℕ) (h : g < 7) where
    letter_more : (n : Gains) (m labels : List ℕ)
        → letter_on F ts g (pair_of (rows_on F (share_of_gains F n) g m) labels)
        ≡ pair_of (rows_on F (share_of_gains F (one_more F (t_value ts labels g) n)) g m) (swapped g labels)
    unfolding letter_on share_of
    letter_more n m labels =
        let sign : is_inverse g ≡ false = ap (λ (b : Bool). b && leb g 14) (lt-leb 8 g (omega arith)) in
        let place : generator g ≡ g = mod-eq_of_lt (omega arith) in
        rw (place, sign)
        (ap (λ (x : List ℕ). pair_of x (swapped g labels))
        (rows_then (more_composes (t_value ts labels g) n) g m (omega arith)))

    -- the square of a letter leaves the labels
    square_more : (n : Gains) (m labels : List ℕ) → length labels ≡ 8
        → word_on F ts (g ∷ g ∷ []) (pair_of (rows_on F (share_of_gains F n) g m) labels)
        ≡ pair_of
        (rows_on F
        (share_of_gains F (one_more F (t_value ts labels (g + 1)) (one_more F (t_value ts labels g) n))) g m)
        labels
    unfolding word_on
    square_more n m labels l =
        let s = t_value ts labels g in
        let t = value_after g ts labels (omega arith) in
        ap (letter_on F ts g) (letter_more n m labels)
        ∙ letter_more (one_more F s n) m (swapped g labels)
        ∙ ap₂ (λ (x : ℕ) (k : List ℕ). pair_of (rows_on F (share_of_gains F (one_more F x (one_more F s n))) g m) k) t
        (swapped_twice g labels (omega arith))

replicate_two : (n c : ℕ) → replicate (suc (suc n)) c ≡ replicate n c ++ (c ∷ c ∷ [])
replicate_two zero c = refl
replicate_two (suc n) c = ap (λ (w : List ℕ). c ∷ w) (replicate_two n c)

-- the p-th power of a letter's square, on a good pair
pub power_on : {F : Operations} → BinaryField F → (ts : List ℕ) (g p : ℕ) → g < 7 → (q : Pair) → GoodPair F q
    → word_on F ts (replicate (2 * p) g) q
    ≡ pair_of
    (rows_on F (share_of_gains F (power_gains F (t_value ts q.labels g) (t_value ts q.labels (g + 1)) p)) g q.matrix)
    q.labels
unfolding word_on power_gains
power_on {F} L ts g zero h q good =
    λ j. record {
      matrix = sym (rows_none L g q.matrix (omega arith) good.entries good.entry_below) j;
      labels = q.labels;
      positions = good.positions_are j;
    }
power_on {F} L ts g (suc p) h q good =
    let w : List ℕ = replicate (2 * p) g in
    let two : 2 * suc p ≡ suc (suc (2 * p)) = omega arith in
    let s = t_value ts q.labels g in
    let t = t_value ts q.labels (g + 1) in
    ap (λ (n : ℕ). word_on F ts (replicate n g) q) two
    ∙ ap (λ (v : List ℕ). word_on F ts v q) (replicate_two (2 * p) g)
    ∙ word_on_append F ts w (g ∷ g ∷ []) q
    ∙ ap (word_on F ts (g ∷ g ∷ [])) (power_on L ts g p h q good)
    ∙ square_more L ts g h (power_gains F s t p) q.matrix q.labels good.strands
