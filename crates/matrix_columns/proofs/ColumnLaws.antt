-- A column is put together from its entries and taken apart again, one entry after another. The matrix of columns is
-- built one column after another.
use Prim.Native.Nat.{ℕ, zero, suc, ◌+◌, ◌-◌, ◌*◌, ◌/◌, ◌%◌, ◌^◌, ◌≤◌, ◌<◌}
use mathlib.Core.Path.{◌≡◌, refl, sym, ap, ◌∙◌}
use mathlib.Core.List.{List}
use native.Mathlib.Nat.{zero-lt-suc, pow-suc, pow-le-pow_right}
use native.Mathlib.Numerals.{add-one}
use native.Mathlib.Omega.{arith}
use native.Mathlib.Decide.{ℕ_discrete}
use lib.Arith.{digits_lt}
use lib.ListN.{length, get_or, set, length-set}
use lib.Seq.{get_or-set_same, get_or-set_other}
use Rattle.matrix.specs.Layout.{place, entry}
use Rattle.matrix.proofs.LayoutLaws.{by_entries}
use Rattle.matrix.proofs.StoreLaws.{store_same, store_other}
use Rattle.matrix_columns.specs.steps.Lanes.{lane, InLanes, Put, columns_matrix}
use Rattle.matrix_columns.proofs.LaneLaws.{lane_first, lane_next, joined_first, joined_next}

-- ---- a column's number

-- the last i entries of a column are the lanes of x
pub record Loaded (m : List ℕ) (column i x : ℕ) : Type 0 where
  pub below : x < 256 ^ i
  pub lanes : (j : ℕ) → j < i → lane j x ≡ entry m (8 - i + j) column

pub none_loaded : (m : List ℕ) (column : ℕ) → Loaded m column 0 0
none_loaded m column = record { below = zero-lt-suc 0; lanes = λ j h. absurd (omega arith) }

module _ (m : List ℕ) (column i x b : ℕ) (hi : i < 8) (hb : b < 256) (l : Loaded m column i x) where
  joined_below : x * 256 + b < 256 ^ (i + 1)
  joined_below = rw (add-one i, pow-suc 256 i) (digits_lt l.below hb)

  pub load_fits : x * 256 + b < 2 ^ 64
  load_fits =
      let last : i + 1 ≤ 8 = omega arith in
      let top : 256 ^ (i + 1) ≤ 256 ^ 8 = pow-le-pow_right (zero-lt-suc 255) last in
      omega (arith, joined_below)

  pub next_loaded : b ≡ entry m (7 - i) column → Loaded m column (i + 1) (x * 256 + b)
  next_loaded e = record { below = joined_below; lanes = at }
    where
      at : (j : ℕ) → j < i + 1 → lane j (x * 256 + b) ≡ entry m (8 - (i + 1) + j) column
      at zero h =
          let k : 7 - i ≡ 8 - (i + 1) + 0 = omega arith in
          joined_first x b hb ∙ e ∙ ap (λ (r : ℕ). entry m r column) k
      at (suc j) h =
          let k : 8 - i + j ≡ 8 - (i + 1) + suc j = omega arith in
          joined_next x b hb j ∙ l.lanes j (omega arith) ∙ ap (λ (r : ℕ). entry m r column) k

pub all_loaded : (m : List ℕ) (column x : ℕ) → Loaded m column 8 x → InLanes x (λ j. entry m j column)
all_loaded m column x l j h = let e : 8 - 8 + j ≡ j = omega arith in l.lanes j h ∙ ap (λ (r : ℕ). entry m r column) e

-- ---- the entries of a column

-- the first r entries of a column are the first r lanes of x; `rest` holds the lanes that are not yet stored
pub record Storing (x column r : ℕ) (m after : List ℕ) (rest : ℕ) : Type 0 where
  pub size : length after ≡ 64
  pub rest_is : (j : ℕ) → lane j rest ≡ lane (r + j) x
  pub there : (j : ℕ) → j < r → lane j x ≡ entry after j column
  pub elsewhere : (i c : ℕ) → i < 8 → c < 8 → (c ≡ column → ⊥) → entry after i c ≡ entry m i c

pub none_stored : (x column : ℕ) (m : List ℕ) → length m ≡ 64 → Storing x column 0 m m x
none_stored x column m l =
    record {
      size = l;
      rest_is = λ j. (let e : j ≡ 0 + j = omega arith in ap (λ (k : ℕ). lane k x) e);
      there = λ j h. absurd (omega arith);
      elsewhere = λ i c hi hc n. refl;
    }

pub next_stored : (x column r : ℕ) (m after : List ℕ) (rest : ℕ) → r < 8 → column < 8 → Storing x column r m after rest
    → Storing x column (r + 1) m (set after (place r column) (rest % 256)) (rest / 256)
next_stored x column r m after rest hr hc s =
    record {
      size = length-set after (place r column) (rest % 256) ∙ s.size;
      rest_is =
          λ j. (let e : r + suc j ≡ r + 1 + j = omega arith in
          sym (lane_next j rest) ∙ s.rest_is (suc j) ∙ ap (λ (k : ℕ). lane k x) e);
      there = λ j h. at j h (ℕ_discrete j r);
      elsewhere =
          λ i c hi h n. store_other after r column (rest % 256) hr hc i c hi h (λ a b. n b) ∙ s.elsewhere i c hi h n;
    }
  where
    at : (j : ℕ) → j < r + 1 → Dec (j ≡ r) → lane j x ≡ entry (set after (place r column) (rest % 256)) j column
    at j h (yes e) =
        let k : r + 0 ≡ j = omega arith in
        sym (ap (λ (i : ℕ). lane i x) k) ∙ sym (s.rest_is 0) ∙ lane_first rest
        ∙ sym (store_same after r column (rest % 256) hr hc s.size)
        ∙ ap (λ (i : ℕ). entry (set after (place r column) (rest % 256)) i column) (sym e)
    at j h (no n) =
        s.there j (omega arith)
        ∙ sym (store_other after r column (rest % 256) hr hc j column (omega arith) hc (λ a b. n a))

pub all_stored : (x column : ℕ) (m after : List ℕ) (rest : ℕ) → Storing x column 8 m after rest → Put x column m after
all_stored x column m after rest s = record { size = s.size; there = s.there; elsewhere = s.elsewhere }

-- ---- the columns of a matrix

-- the numbers at places 1 to n are the first n columns
pub record Holding (m : List ℕ) (n : ℕ) (cols : List ℕ) : Type 0 where
  pub places : length cols ≡ 9
  pub held : (r c : ℕ) → r < 8 → c < n → lane r (get_or cols (c + 1) 0) ≡ entry m r c

pub none_held : (m : List ℕ) (cols : List ℕ) → length cols ≡ 9 → Holding m 0 cols
none_held m cols l = record { places = l; held = λ r c hr hc. absurd (omega arith) }

pub next_held : (m : List ℕ) (n : ℕ) (cols : List ℕ) (x : ℕ) → n < 8 → InLanes x (λ j. entry m j n) → Holding m n cols
    → Holding m (n + 1) (set cols (n + 1) x)
next_held m n cols x h lanes o =
    record { places = length-set cols (n + 1) x ∙ o.places; held = λ r c hr hc. at r c hr hc (ℕ_discrete c n) }
  where
    at : (r c : ℕ) → r < 8 → c < n + 1 → Dec (c ≡ n) → lane r (get_or (set cols (n + 1) x) (c + 1) 0) ≡ entry m r c
    at r c hr hc (yes e) =
        rw e (ap (lane r) (get_or-set_same cols (n + 1) x 0 (omega (arith, o.places))) ∙ lanes r hr)
    at r c hr hc (no k) =
        ap (lane r) (get_or-set_other cols (n + 1) (c + 1) x 0 (omega arith)) ∙ o.held r c hr (omega arith)

pub all_held : (m cols : List ℕ) → length m ≡ 64 → Holding m 8 cols → columns_matrix cols ≡ m
unfolding columns_matrix
all_held m cols l o = sym (by_entries m (λ r c. lane r (get_or cols (c + 1) 0)) l (λ r c hr hc. sym (o.held r c hr hc)))

-- ---- the matrix of columns

-- the first n columns of a matrix are the numbers at places 1 to n
pub record Restored (cols : List ℕ) (n : ℕ) (m : List ℕ) : Type 0 where
  pub size : length m ≡ 64
  pub there : (r c : ℕ) → r < 8 → c < n → entry m r c ≡ lane r (get_or cols (c + 1) 0)

pub none_restored : (cols m : List ℕ) → length m ≡ 64 → Restored cols 0 m
none_restored cols m l = record { size = l; there = λ r c hr hc. absurd (omega arith) }

pub next_restored : (cols : List ℕ) (n : ℕ) (m after : List ℕ) → n < 8 → Put (get_or cols (n + 1) 0) n m after
    → Restored cols n m
    → Restored cols (n + 1) after
next_restored cols n m after h put o = record { size = put.size; there = λ r c hr hc. at r c hr hc (ℕ_discrete c n) }
  where
    at : (r c : ℕ) → r < 8 → c < n + 1 → Dec (c ≡ n) → entry after r c ≡ lane r (get_or cols (c + 1) 0)
    at r c hr hc (yes e) = rw e (sym (put.there r hr))
    at r c hr hc (no k) = put.elsewhere r c hr (omega arith) k ∙ o.there r c hr (omega arith)

pub all_restored : (cols m : List ℕ) → Restored cols 8 m → m ≡ columns_matrix cols
unfolding columns_matrix
all_restored cols m o = by_entries m (λ r c. lane r (get_or cols (c + 1) 0)) o.size o.there
