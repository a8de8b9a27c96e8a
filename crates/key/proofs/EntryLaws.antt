-- The entries that a key file holds of a matrix: a loop that reads them one by one, and a loop that fills a matrix with
-- them one by one. The entries of that matrix are the given entries.
use Prim.Native.Nat.{ℕ, zero, suc, ◌+◌, ◌-◌, ◌*◌, ◌/◌, ◌%◌, ◌<◌}
use mathlib.Core.Path.{◌≡◌, refl, sym, ap, ap₂, ◌∙◌}
use mathlib.Core.List.{List, [], ◌∷◌, ◌++◌}
use native.Mathlib.Omega.{arith}
use native.Mathlib.Decide.{dec_lt, ℕ_discrete}
use lib.ListN.{length, take, drop, get_or, set, replicate, length-set, drop_of_length-le, take-append-drop}
use lib.ListN.{get_or-append}
use lib.Seq.{drop-cons, set_split, get_or-take, get_or-append-add, length-take-le}
use Rattle.base.specs.Lists.{values}
use Rattle.base.proofs.ListLaws.{values_of}
use Rattle.matrix.specs.Layout.{place, entry}
use Rattle.matrix.proofs.LayoutLaws.{entry_matrix_of, by_entries}
use Rattle.matrix.proofs.StoreLaws.{store_same, store_other}
use Rattle.key.specs.Keys.{whole_matrix, file_entries}
use Rattle.key.specs.steps.Filling.{file_entry, EntriesPlaced}

-- ---- entries read out

-- the first 56 entries of a list, and one more
put : (m es : List ℕ) (x : ℕ) (rest : List ℕ) → length es ≡ 57 → ((k : ℕ) → k < 56 → get_or es k 0 ≡ file_entry m k)
    → x ≡ entry m 7 7 → rest ≡ []
    → take 56 es ++ (x ∷ rest) ≡ file_entries m
unfolding file_entries
put m es x rest l rows last none =
    let size : length (take 56 es) ≡ 56 = length-take-le 56 es (omega arith) in
    let front : take 56 es ≡ values (file_entry m) 56 =
    values_of (file_entry m) 56 (take 56 es) size (λ k h. get_or-take 56 es k 0 h ∙ rows k h) in
    λ i. front i ++ (last i ∷ none i)

-- 56 entries in their places, and then the last entry
pub entries_put : (m es : List ℕ) (x : ℕ) → length es ≡ 57 → ((k : ℕ) → k < 56 → get_or es k 0 ≡ file_entry m k)
    → x ≡ entry m 7 7
    → set es 56 x ≡ file_entries m
entries_put m es x l rows last =
    set_split es 56 x (omega arith) ∙ put m es x (drop 57 es) l rows last (drop_of_length-le es {i = 57} (omega arith))

-- ---- the matrix of 57 entries

pub get_d_zeros : (n k : ℕ) → ◌≡◌ {A = ℕ} (get_or (replicate n 0) k 0) 0
get_d_zeros zero k = refl
get_d_zeros (suc n) zero = refl
get_d_zeros (suc n) (suc k) = get_d_zeros n k

pub placed_none : (es : List ℕ) → EntriesPlaced es 0 (replicate 64 0)
unfolding entry
placed_none es =
    record {
      size = refl;
      placed = λ k h. absurd (omega arith);
      zeros = λ k h b. get_d_zeros 64
          (place (k / 8) (k % 8));
    }

-- one more entry
pub placed_more : (es m : List ℕ) (n : ℕ) {at : ℕ} → at ≡ place (n / 8) (n % 8) → n < 56 → EntriesPlaced es n m
    → EntriesPlaced es (n + 1) (set m at (get_or es n 0))
placed_more es m n e h f =
    rw e record {
      size = length-set m (place (n / 8) (n % 8)) (get_or es n 0) ∙ f.size;
      placed = λ k b. own k b (ℕ_discrete k n);
      zeros = λ k a b. other k b (λ e. omega arith) ∙ f.zeros k (omega arith) b;
    }
  where
    other : (k : ℕ) → k < 64 → (k ≡ n → ⊥) → file_entry (set m (place (n / 8) (n % 8)) (get_or es n 0)) k
        ≡ file_entry m k
    other k b d =
        store_other m (n / 8) (n % 8) (get_or es n 0) (omega arith) (omega arith) (k / 8) (k % 8) (omega arith)
        (omega arith) (λ p q. d (omega arith))

    own : (k : ℕ) → k < n + 1 → Dec (k ≡ n) → file_entry (set m (place (n / 8) (n % 8)) (get_or es n 0)) k
        ≡ get_or es k 0
    own k b (yes e) = rw e (store_same m (n / 8) (n % 8) (get_or es n 0) (omega arith) (omega arith) f.size)
    own k b (no d) = other k (omega arith) d ∙ f.placed k (omega arith)

-- one more entry of row r
pub row_more : (es m : List ℕ) (r c : ℕ) {at x : ℕ} → at ≡ place r c → x ≡ get_or es (8 * r + c) 0 → r < 7 → c < 8
    → EntriesPlaced es (8 * r + c) m
    → EntriesPlaced es (8 * r + (c + 1)) (set m at x)
row_more es m r c {at} e v h g f =
    let er : r ≡ (8 * r + c) / 8 = omega arith in
    let ec : c ≡ (8 * r + c) % 8 = omega arith in
    let more : 8 * r + c + 1 ≡ 8 * r + (c + 1) = omega arith in
    rw (v, ← more) (placed_more es m (8 * r + c) (e ∙ ap₂ place er ec) (omega arith) f)

module _ (es : List ℕ) (l : length es ≡ 57) where
  -- the matrix row by row, as in `whole_matrix`
  abbrev whole : List ℕ
  whole = take 56 es ++ (replicate 7 0 ++ drop 56 es)

  front_size : length (take 56 es) ≡ 56
  front_size = length-take-le 56 es (omega arith)

  whole_row : (k : ℕ) → k < 56 → get_or whole k 0 ≡ get_or es k 0
  whole_row k h =
      get_or-append (take 56 es) (replicate 7 0 ++ drop 56 es) 0 k (omega (arith, front_size))
      ∙ get_or-take 56 es k 0 h

  row_8 : (k : ℕ) → get_or whole (56 + k) 0 ≡ get_or (replicate 7 0 ++ drop 56 es) k 0
  row_8 k =
      ap (λ (n : ℕ). get_or whole (n + k) 0) (sym front_size)
      ∙ get_or-append-add (take 56 es) (replicate 7 0 ++ drop 56 es) k 0

  whole_zero : (k : ℕ) → k < 7 → get_or whole (56 + k) 0 ≡ 0
  whole_zero k h = row_8 k ∙ get_or-append (replicate 7 0) (drop 56 es) 0 k h ∙ get_d_zeros 7 k

  whole_last : get_or whole 63 0 ≡ get_or es 56 0
  whole_last = row_8 7 ∙ ap (λ (r : List ℕ). get_or r 0 0) (drop-cons es 56 0 (omega arith))

  -- the last entry
  abbrev x : ℕ
  x = get_or es 56 0

  -- 56 entries in their places, and then the last entry
  pub whole_put : (m : List ℕ) {at : ℕ} → at ≡ place 7 7 → EntriesPlaced es 56 m → set m at x ≡ whole_matrix es
  unfolding whole_matrix
  whole_put m e f =
      ap (λ (at : ℕ). set m at x) e
      ∙ by_entries (set m (place 7 7) x) (λ r c. get_or whole (8 * r + c) 0) (length-set m (place 7 7) x ∙ f.size)
      (λ r c p q. at r c p q (dec_lt (8 * r + c) 56) (ℕ_discrete (8 * r + c) 63))
    where
      kept : (r c : ℕ) → r < 8 → c < 8 → (8 * r + c ≡ 63 → ⊥)
          → entry (set m (place 7 7) x) r c ≡ file_entry m (8 * r + c)
      kept r c p q d =
          let er : r ≡ (8 * r + c) / 8 = omega arith in
          let ec : c ≡ (8 * r + c) % 8 = omega arith in
          store_other m 7 7 x (omega arith) (omega arith) r c p q (λ a b. d (omega arith)) ∙ ap₂ (entry m) er ec

      at : (r c : ℕ) → r < 8 → c < 8 → Dec (8 * r + c < 56) → Dec (8 * r + c ≡ 63)
          → entry (set m (place 7 7) x) r c ≡ get_or whole (8 * r + c) 0
      at r c p q (yes h) e = kept r c p q (λ d. omega arith) ∙ f.placed (8 * r + c) h ∙ sym (whole_row (8 * r + c) h)
      at r c p q (no h) (no d) =
          let k : 56 + (8 * r + c - 56) ≡ 8 * r + c = omega arith in
          kept r c p q d ∙ f.zeros (8 * r + c) (omega arith) (omega arith)
          ∙ sym (ap (λ (j : ℕ). get_or whole j 0) (sym k) ∙ whole_zero (8 * r + c - 56) (omega arith))
      at r c p q (no h) (yes e) =
          let er : r ≡ 7 = omega arith in
          let ec : c ≡ 7 = omega arith in
          ap₂ (entry (set m (place 7 7) x)) er ec ∙ store_same m 7 7 x (omega arith) (omega arith) f.size
          ∙ sym (ap (λ (j : ℕ). get_or whole j 0) e ∙ whole_last)

  row : (k : ℕ) → k < 56 → get_or es k 0 ≡ file_entry (whole_matrix es) k
  unfolding whole_matrix
  row k h =
      let p : 8 * (k / 8) + k % 8 ≡ k = omega arith in
      sym
      (entry_matrix_of (λ r c. get_or whole (8 * r + c) 0) (k / 8) (k % 8) (omega arith) (omega arith)
      ∙ ap (λ (j : ℕ). get_or whole j 0) p
      ∙ whole_row k h)

  last : get_or es 56 0 ≡ entry (whole_matrix es) 7 7
  unfolding whole_matrix
  last = sym (entry_matrix_of (λ r c. get_or whole (8 * r + c) 0) 7 7 (omega arith) (omega arith) ∙ whole_last)

  -- the entries that a file holds of the matrix of 57 entries are these 57 entries
  pub entries_whole : file_entries (whole_matrix es) ≡ es
  entries_whole =
      sym
      (sym (take-append-drop 56 es)
      ∙ ap (λ (r : List ℕ). take 56 es ++ r) (drop-cons es 56 0 (omega arith))
      ∙ put (whole_matrix es) es (get_or es 56 0) (drop 57 es) l row last (drop_of_length-le es {i = 57} (omega arith)))
