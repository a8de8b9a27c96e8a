-- Elimination answers yes exactly if the matrix has an inverse, for any binary field and any 64 elements. Products of
-- invertible matrices are invertible. The identity and every permutation matrix are invertible. A matrix with a column
-- of zeros is not.
use Prim.Native.Nat.{ℕ, ◌-◌, ◌<◌}
use mathlib.Core.Path.{◌≡◌, refl, sym, ap, ◌∙◌}
use mathlib.Core.Bool.{true, false}
use mathlib.Core.List.{List}
use mathlib.Core.Logic.{◌↔◌}
use native.Mathlib.Omega.{arith}
use native.Mathlib.Decide.{dec_lt}
use lib.ListN.{get_or, replicate, length-replicate, get_or-replicate, get_or-eq_default}
use Rattle.base.proofs.ListLaws.{not_true_false}
use Rattle.field.specs.Binary.{Operations, BinaryField}
use Rattle.matrix.specs.Layout.{place, entry, matrix_of, Matrix}
use Rattle.matrix.specs.Product.{row_by, unit, identity, matrix_product}
use Rattle.matrix.specs.Elimination.{invertible, Inverse, HasInverse}
use Rattle.matrix.proofs.LayoutLaws.{place_below, entry_matrix_of, matrix_of_ext, entry_below, matrix_of_good}
use Rattle.matrix.proofs.ProductLaws.{unit_same, unit_below, row_by_ext, row_by_below, row_by_mul}
use Rattle.matrix.proofs.ProductLaws.{row_by_column_zero, unit_row_by, product_elements, identity_elements}
use Rattle.matrix.proofs.ProductLaws.{product_assoc, identity_left}
use Rattle.matrix.proofs.EliminationLaws.{Reached, LeftInverse, Elements, every_row, inverse_found}
use Rattle.matrix.proofs.EliminationLaws.{found_inverse}

module _ {F : Operations} (L : BinaryField F) where
  -- ---- lists of 64 and functions of row and column

  pub entries_elements : (m : List ℕ) → Matrix F.size m → Elements F 8 (entry m)
  entries_elements m good r c hr hc = entry_below m r c good.below

  pub inverse_entry : (b m : List ℕ) → Inverse F b m → (r c : ℕ) → r < 8 → c < 8
      → row_by F 8 (entry b r) (entry m) c ≡ unit r c
  unfolding matrix_product identity
  inverse_entry b m i r c hr hc =
      sym (entry_matrix_of (λ r. row_by F 8 (entry b r) (entry m)) r c hr hc)
      ∙ ap (λ (l : List ℕ). entry l r c) i.gives_identity
      ∙ entry_matrix_of unit r c hr hc

  entries_inverse : (b m : List ℕ) → Inverse F b m → LeftInverse F 8 (entry m)
  entries_inverse b m i r hr = record { weights = entry b r; reach = λ c hc. inverse_entry b m i r c hr hc }

  -- a weight may be any number, so the inverse takes 1 times the weight, which is an element
  list_inverse : (m : List ℕ) → LeftInverse F 8 (entry m) → HasInverse F m
  unfolding matrix_product identity
  list_inverse m w =
      record {
        inverse = matrix_of b;
        inverts =
            record {
              elements = matrix_of_good b L.zero_below (λ r k hr hk. L.mul_below 1 ((reached r).weights k));
              gives_identity =
                  matrix_of_ext (λ r. row_by F 8 (entry (matrix_of b) r) (entry m)) unit
                  (λ r c hr hc.
                  row_by_ext F 8 (entry (matrix_of b) r) (b r) (entry m) (entry m) c
                  (λ k h. entry_matrix_of b r k hr h) (λ k h. refl)
                  ∙ row_by_mul L 8 1 (reached r).weights (entry m) c
                  ∙ L.one_mul (row_by_below L 8 (reached r).weights (entry m) c)
                  ∙ (reached r).reach c hc);
            };
      }
    where
      reached : (r : ℕ) → Reached F 8 (entry m) (unit r)
      reached = every_row L 8 (entry m) w

      b : ℕ → ℕ → ℕ
      b r k = F.mul 1 ((reached r).weights k)

  -- ---- the theorem

  module _ (m : List ℕ) (good : Matrix F.size m) where
    pub invertible_iff : (invertible F 8 (entry m) ≡ true) ↔ HasInverse F m
    invertible_iff = (
      λ e. list_inverse m (found_inverse L 8 (entry m) (entries_elements m good) e),
      λ h. inverse_found L 8 (entry m) (entries_elements m good) (entries_inverse h.inverse m h.inverts),
    )

    pub invertible_by : (b : List ℕ) → Inverse F b m → invertible F 8 (entry m) ≡ true
    invertible_by b i = invertible_iff.1 (record { inverse = b; inverts = i })

    not_invertible : (HasInverse F m → ⊥) → invertible F 8 (entry m) ≡ false
    not_invertible h = not_true_false (invertible F 8 (entry m)) (λ e. h (invertible_iff.0 e))

  -- ---- products

  product_inverse : (a b m n : List ℕ) → Matrix F.size n → Inverse F a m → Inverse F b n
      → Inverse F (matrix_product F b a) (matrix_product F m n)
  product_inverse a b m n good i j =
      record {
        elements = product_elements L b a;
        gives_identity =
            product_assoc L b a (matrix_product F m n)
            ∙ ap (matrix_product F b)
            (sym (product_assoc L a m n) ∙ ap (λ (l : List ℕ). matrix_product F l n) i.gives_identity
            ∙ identity_left L n good)
            ∙ j.gives_identity;
      }

  pub product_invertible : (m n : List ℕ) → Matrix F.size m → Matrix F.size n
      → invertible F 8 (entry m) ≡ true → invertible F 8 (entry n) ≡ true
      → invertible F 8 (entry (matrix_product F m n)) ≡ true
  product_invertible m n gm gn em en =
      let i = (invertible_iff m gm).0 em in
      let j = (invertible_iff n gn).0 en in
      invertible_by (matrix_product F m n) (product_elements L m n) (matrix_product F j.inverse i.inverse)
      (product_inverse i.inverse j.inverse m n gn i.inverts j.inverts)

  -- ---- some matrices that are invertible, and one that is not

  pub identity_inverse : Inverse F identity identity
  identity_inverse =
      record { elements = identity_elements L; gives_identity = identity_left L identity (identity_elements L) }

  pub identity_invertible : invertible F 8 (entry identity) ≡ true
  identity_invertible = invertible_by identity (identity_elements L) identity identity_inverse

  -- the matrix whose row r has 1 in column s r and 0 elsewhere
  abbrev pub permuted : (ℕ → ℕ) → List ℕ
  permuted s = matrix_of (λ r. unit (s r))

  pub permuted_elements : (s : ℕ → ℕ) → Matrix F.size (permuted s)
  permuted_elements s = matrix_of_good (λ r. unit (s r)) L.zero_below (λ r c hr hc. unit_below L (s r) c)

  -- if s (t r) = r for every row r, the matrix of t is an inverse of the matrix of s
  pub permuted_inverse : (s t : ℕ → ℕ) → ((r : ℕ) → r < 8 → t r < 8) → ((r : ℕ) → r < 8 → s (t r) ≡ r)
      → Inverse F (permuted t) (permuted s)
  unfolding matrix_product identity
  permuted_inverse s t below back =
      record {
        elements = permuted_elements t;
        gives_identity =
            matrix_of_ext (λ r. row_by F 8 (entry (permuted t) r) (entry (permuted s))) unit
            (λ r c hr hc.
            row_by_ext F 8 (entry (permuted t) r) (unit (t r)) (entry (permuted s)) (λ k. unit (s k)) c
            (λ k h. entry_matrix_of (λ i. unit (t i)) r k hr h) (λ k h. entry_matrix_of (λ i. unit (s i)) k c h hc)
            ∙ unit_row_by L 8 (t r) (λ k. unit (s k)) c (below r hr) (unit_below L (s (t r)) c)
            ∙ ap (λ (k : ℕ). unit k c) (back r hr));
      }

  -- the identity with its rows in reverse order has an inverse
  pub reversed_invertible : invertible F 8 (entry (permuted (λ r. 7 - r))) ≡ true
  reversed_invertible =
      invertible_by (permuted (λ r. 7 - r)) (permuted_elements (λ r. 7 - r)) (permuted (λ r. 7 - r))
      (permuted_inverse (λ r. 7 - r) (λ r. 7 - r) (λ r h. omega arith) (λ r h. omega arith))

  -- a matrix with a column of zeros has no inverse
  zero_column : (m : List ℕ) (c : ℕ) → c < 8 → ((r : ℕ) → r < 8 → entry m r c ≡ 0) → HasInverse F m → ⊥
  zero_column m c hc zeros h =
      let w = entries_inverse h.inverse m h.inverts c hc in
      let e : ◌≡◌ {A = ℕ} 0 1 =
      sym (row_by_column_zero L 8 w.weights (entry m) c zeros) ∙ w.reach c hc ∙ unit_same c c refl in
      omega arith

  -- the blank matrix, all zeros, is a matrix of elements
  pub zero_elements : Matrix F.size (replicate 64 0)
  zero_elements = record { size = length-replicate {A = ℕ} 64 0; below = λ k. at k (dec_lt k 64) }
    where
      at : (k : ℕ) → Dec (k < 64) → get_or (replicate 64 0) k 0 < F.size
      at k (yes h) = rw (get_or-replicate {A = ℕ} 64 k 0 0 h) L.zero_below
      at k (no h) = rw (get_or-eq_default {A = ℕ} (replicate 64 0) 0 {n = k} (omega arith)) L.zero_below

  pub zero_not_invertible : invertible F 8 (entry (replicate 64 0)) ≡ false
  unfolding entry
  zero_not_invertible =
      not_invertible (replicate 64 0) zero_elements (zero_column (replicate 64 0) 0 (omega arith) blank)
    where
      blank : (r : ℕ) → r < 8 → entry (replicate 64 0) r 0 ≡ 0
      blank r h = get_or-replicate 64 (place r 0) 0 0 (place_below r 0 h (omega arith))
