-- Product, comparison and elimination of matrices held by columns equal those of matrices held by rows, through the
-- plain change of layout. The laws hold for the operations of any field. The change of layout is its own inverse.
use Prim.Native.Nat.{ℕ, ◌+◌, ◌*◌, ◌/◌, ◌%◌, ◌<◌}
use mathlib.Core.Path.{◌≡◌, refl, sym, ap, ap₂, ◌∙◌}
use mathlib.Core.Bool.{Bool, true, false}
use mathlib.Core.List.{List}
use native.Mathlib.Omega.{arith}
use lib.ListN.{length, get_or}
use Rattle.base.specs.Lists.{every, equal}
use Rattle.base.proofs.ListLaws.{length_values, get_d_values, values_of, every_get_d, every_from, equal_true, equal_of}
use Rattle.base.proofs.ListLaws.{equal_false, not_true_false, true_false}
use Rattle.field.specs.Binary.{Operations}
use Rattle.matrix.specs.Layout.{place, row_of, column_of, entry, matrix_of}
use Rattle.matrix.specs.Product.{row_by, matrix_product}
use Rattle.matrix.specs.Elimination.{invertible}
use Rattle.matrix.specs.ByRows.{turned, entry_by_rows, matrix_by_rows, product_by_rows, invertible_by_rows}
use Rattle.matrix.proofs.LayoutLaws.{matrix_of_ext}
use Rattle.matrix.proofs.ProductLaws.{row_by_ext}
use Rattle.matrix.proofs.SweepLaws.{invertible_same}

-- ---- the change of layout

pub length_turned : (m : List ℕ) → length (turned m) ≡ 64
unfolding turned
length_turned m = length_values (λ k. get_or m (8 * (k % 8) + k / 8) 0) 0 64

get_d_turned : (m : List ℕ) (k : ℕ) → k < 64 → get_or (turned m) k 0 ≡ get_or m (8 * (k % 8) + k / 8) 0
unfolding turned
get_d_turned m k h = get_d_values (λ k. get_or m (8 * (k % 8) + k / 8) 0) 64 k h

-- the change of layout is its own inverse
pub turned_twice : (m : List ℕ) → length m ≡ 64 → turned (turned m) ≡ m
unfolding turned
turned_twice m l = sym (values_of (λ k. get_or (turned m) (8 * (k % 8) + k / 8) 0) 64 m l at)
  where
    at : (k : ℕ) → k < 64 → get_or m k 0 ≡ get_or (turned m) (8 * (k % 8) + k / 8) 0
    at k h =
        let i = 8 * (k % 8) + k / 8 in
        let e : 8 * (i % 8) + i / 8 ≡ k = omega arith in
        sym (get_d_turned m i (omega arith) ∙ ap (λ (j : ℕ). get_or m j 0) e)

-- the changed matrix has, by columns, the entries that the matrix has by rows
pub entry_turned : (m : List ℕ) (r c : ℕ) → r < 8 → c < 8 → entry (turned m) r c ≡ entry_by_rows m r c
unfolding place entry entry_by_rows
entry_turned m r c hr hc =
    let e : 8 * ((8 * c + r) % 8) + (8 * c + r) / 8 ≡ 8 * r + c = omega arith in
    get_d_turned m (8 * c + r) (omega arith) ∙ ap (λ (j : ℕ). get_or m j 0) e

pub matrix_turned : (f : ℕ → ℕ → ℕ) → matrix_of f ≡ turned (matrix_by_rows f)
unfolding row_of column_of matrix_of matrix_by_rows turned
matrix_turned f =
    sym (values_of (λ k. f (k % 8) (k / 8)) 64 (turned (matrix_by_rows f)) (length_turned (matrix_by_rows f)) at)
  where
    at : (k : ℕ) → k < 64 → get_or (turned (matrix_by_rows f)) k 0 ≡ f (k % 8) (k / 8)
    at k h =
        let i = 8 * (k % 8) + k / 8 in
        let r : i / 8 ≡ k % 8 = omega arith in
        let c : i % 8 ≡ k / 8 = omega arith in
        get_d_turned (matrix_by_rows f) k h ∙ get_d_values (λ k. f (k / 8) (k % 8)) 64 i (omega arith) ∙ ap₂ f r c

-- a test of every number gives the same result in both layouts
pub every_turned : (f : ℕ → Bool) (m : List ℕ) → length m ≡ 64 → every f (turned m) ≡ every f m
every_turned f m l = go (every f m) refl
  where
    there : (m : List ℕ) → length m ≡ 64 → every f m ≡ true → every f (turned m) ≡ true
    there m l e =
        every_from f (turned m)
        (λ k h.
        let b : k < 64 = omega (arith, length_turned m) in
        ap f (get_d_turned m k b) ∙ every_get_d f m e (8 * (k % 8) + k / 8) (omega arith))

    go : (t : Bool) → every f m ≡ t → every f (turned m) ≡ t
    go true e = there m l e
    go false e =
        not_true_false (every f (turned m))
        (λ t. true_false (every f m) (ap (every f) (sym (turned_twice m l)) ∙ there (turned m) (length_turned m) t) e)

-- ---- the operations

-- the product of the changed matrices is the product by rows, changed
pub product_turned : (F : Operations) (a b : List ℕ)
    → matrix_product F (turned a) (turned b) ≡ turned (product_by_rows F a b)
unfolding matrix_product product_by_rows
product_turned F a b =
    let rows : ℕ → ℕ → ℕ = λ r. row_by F 8 (entry_by_rows a r) (entry_by_rows b) in
    matrix_of_ext (λ r. row_by F 8 (entry (turned a) r) (entry (turned b))) rows
    (λ r c hr hc.
    row_by_ext F 8 (entry (turned a) r) (entry_by_rows a r) (entry (turned b)) (entry_by_rows b) c
    (λ k h. entry_turned a r k hr h) (λ k h. entry_turned b k c h hc))
    ∙ matrix_turned rows

-- two matrices are equal in one layout exactly if they are equal in the other
pub comparison_turned : (a b : List ℕ) → length a ≡ 64 → length b ≡ 64 → equal (turned a) (turned b) ≡ equal a b
comparison_turned a b l l' = go (equal a b) refl
  where
    go : (t : Bool) → equal a b ≡ t → equal (turned a) (turned b) ≡ t
    go true e = equal_of (ap turned (equal_true a b e))
    go false e =
        equal_false (turned a) (turned b)
        (λ d. true_false (equal a b) (equal_of (sym (turned_twice a l) ∙ ap turned d ∙ turned_twice b l')) e)

-- elimination gives the same answer in both layouts
pub elimination_turned : (F : Operations) (m : List ℕ) → invertible F 8 (entry (turned m)) ≡ invertible_by_rows F m
unfolding invertible_by_rows
elimination_turned F m = invertible_same F 8 (entry (turned m)) (entry_by_rows m) (entry_turned m)
