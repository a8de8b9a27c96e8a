-- Laws of the layout of an 8 by 8 matrix. Each place belongs to one row and column, and each row and column to one
-- place. The entry of `matrix_of f` in row r and column c is f r c. Matrices with the same entries are equal. A list of
-- 64 numbers is the matrix of its entries. Entries keep their bounds. Other laws use these and do not unfold the
-- layout. Exceptions: `ChangeOfLayout`, and proofs that compute with a given matrix.
use Prim.Native.Nat.{ℕ, ◌<◌}
use mathlib.Core.Path.{◌≡◌, sym, ap, ap₂, ◌∙◌}
use mathlib.Core.List.{List}
use native.Mathlib.Omega.{arith}
use native.Mathlib.Decide.{dec_lt}
use lib.ListN.{length, get_or, get_or-eq_default}
use lib.Seq.{ext_get_or}
use Rattle.base.proofs.ListLaws.{length_values, get_d_values}
use Rattle.matrix.specs.Layout.{place, row_of, column_of, entry, matrix_of, Matrix}

-- ---- places

module _ (r c : ℕ) (hr : r < 8) (hc : c < 8) where
  pub place_below : place r c < 64
  unfolding place
  place_below = omega arith

  row_place : row_of (place r c) ≡ r
  unfolding place row_of
  row_place = omega arith

  column_place : column_of (place r c) ≡ c
  unfolding place column_of
  column_place = omega arith

module _ (k : ℕ) (h : k < 64) where
  row_below : row_of k < 8
  unfolding row_of
  row_below = omega arith

  column_below : column_of k < 8
  unfolding column_of
  column_below = omega arith

  place_of : place (row_of k) (column_of k) ≡ k
  unfolding place row_of column_of
  place_of = omega arith

-- two entries at one place have the same row and the same column
pub place_row : (r c i j : ℕ) → r < 8 → c < 8 → i < 8 → j < 8 → place i j ≡ place r c → i ≡ r
place_row r c i j hr hc hi hj e = sym (row_place i j hi hj) ∙ ap row_of e ∙ row_place r c hr hc

pub place_column : (r c i j : ℕ) → r < 8 → c < 8 → i < 8 → j < 8 → place i j ≡ place r c → j ≡ c
place_column r c i j hr hc hi hj e = sym (column_place i j hi hj) ∙ ap column_of e ∙ column_place r c hr hc

-- ---- entries

pub length_matrix_of : (f : ℕ → ℕ → ℕ) → length (matrix_of f) ≡ 64
unfolding matrix_of
length_matrix_of f = length_values (λ k. f (row_of k) (column_of k)) 0 64

get_d_matrix_of : (f : ℕ → ℕ → ℕ) (k : ℕ) → k < 64 → get_or (matrix_of f) k 0 ≡ f (row_of k) (column_of k)
unfolding matrix_of
get_d_matrix_of f k h = get_d_values (λ k. f (row_of k) (column_of k)) 64 k h

-- the entry of the matrix of f in row r and column c is f r c
pub entry_matrix_of : (f : ℕ → ℕ → ℕ) (r c : ℕ) → r < 8 → c < 8 → entry (matrix_of f) r c ≡ f r c
unfolding entry
entry_matrix_of f r c hr hc =
    get_d_matrix_of f (place r c) (place_below r c hr hc) ∙ ap₂ f (row_place r c hr hc) (column_place r c hr hc)

-- matrices with the same entries are equal
pub matrix_of_ext : (f g : ℕ → ℕ → ℕ) → ((r c : ℕ) → r < 8 → c < 8 → f r c ≡ g r c) → matrix_of f ≡ matrix_of g
matrix_of_ext f g equal =
    ext_get_or 0 (matrix_of f) (matrix_of g) (length_matrix_of f ∙ sym (length_matrix_of g))
    (λ k h. at k (omega (arith, length_matrix_of f)))
  where
    at : (k : ℕ) → k < 64 → get_or (matrix_of f) k 0 ≡ get_or (matrix_of g) k 0
    at k h =
        get_d_matrix_of f k h ∙ equal (row_of k) (column_of k) (row_below k h) (column_below k h)
        ∙ sym (get_d_matrix_of g k h)

-- a list of 64 numbers is the matrix of its entries
pub matrix_of_entry : (m : List ℕ) → length m ≡ 64 → matrix_of (entry m) ≡ m
unfolding entry
matrix_of_entry m l =
    ext_get_or 0 (matrix_of (entry m)) m (length_matrix_of (entry m) ∙ sym l)
    (λ k h. at k (omega (arith, length_matrix_of (entry m))))
  where
    at : (k : ℕ) → k < 64 → get_or (matrix_of (entry m)) k 0 ≡ get_or m k 0
    at k h = get_d_matrix_of (entry m) k h ∙ ap (λ (j : ℕ). get_or m j 0) (place_of k h)

-- two lists of 64 numbers with the same entries are equal
pub matrix_ext : (m m' : List ℕ) → length m ≡ 64 → length m' ≡ 64
    → ((r c : ℕ) → r < 8 → c < 8 → entry m r c ≡ entry m' r c) → m ≡ m'
matrix_ext m m' l l' equal =
    sym (matrix_of_entry m l) ∙ matrix_of_ext (entry m) (entry m') equal ∙ matrix_of_entry m' l'

-- a list of 64 numbers with the entries f r c is the matrix of f
pub by_entries : (m : List ℕ) (f : ℕ → ℕ → ℕ) → length m ≡ 64 → ((r c : ℕ) → r < 8 → c < 8 → entry m r c ≡ f r c)
    → m ≡ matrix_of f
by_entries m f l h = sym (matrix_of_entry m l) ∙ matrix_of_ext (entry m) f h

-- ---- bounds

pub entry_below : {n : ℕ} (m : List ℕ) (r c : ℕ) → ((k : ℕ) → get_or m k 0 < n) → entry m r c < n
unfolding entry
entry_below m r c below = below (place r c)

matrix_of_below : {n : ℕ} (f : ℕ → ℕ → ℕ) → 0 < n → ((r c : ℕ) → r < 8 → c < 8 → f r c < n) → (k : ℕ)
    → get_or (matrix_of f) k 0 < n
matrix_of_below {n} f pos below k = go (dec_lt k 64)
  where
    go : Dec (k < 64) → get_or (matrix_of f) k 0 < n
    go (yes h) = omega (arith, get_d_matrix_of f k h, below (row_of k) (column_of k) (row_below k h) (column_below k h))
    go (no h) = omega (arith, get_or-eq_default (matrix_of f) 0 {n = k} (omega (arith, length_matrix_of f)))

pub matrix_of_good : {n : ℕ} (f : ℕ → ℕ → ℕ) → 0 < n → ((r c : ℕ) → r < 8 → c < 8 → f r c < n) → Matrix n (matrix_of f)
matrix_of_good f pos below = record { size = length_matrix_of f; below = matrix_of_below f pos below }
