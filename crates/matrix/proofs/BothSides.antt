-- An inverse from the left is one from the right, over any binary field. If elimination says yes, the rows of a matrix
-- m add up to a row of zeros only if all weights are zero. If b m is the identity, the differences between a row of m b
-- and that row of the identity are such weights, so the two rows are equal.
use Prim.Native.Nat.{ℕ, zero, suc, ◌<◌}
use mathlib.Core.Path.{◌≡◌, refl, sym, ap, ap₂, ◌∙◌}
use mathlib.Core.Bool.{true, not}
use mathlib.Core.List.{List}
use native.Mathlib.Omega.{arith}
use native.Mathlib.Decide.{ℕ_discrete}
use lib.Dec.{eqb}
use Rattle.base.proofs.ListLaws.{and_left, and_right}
use Rattle.field.specs.Binary.{Operations, BinaryField}
use Rattle.field.proofs.Ring.{ring, reciprocals, add_comm, zero_add, add_zero, twice, zero_mul}
use Rattle.matrix.specs.Layout.{entry, Matrix}
use Rattle.matrix.specs.Product.{row_by, unit, identity, matrix_product}
use Rattle.matrix.specs.Elimination.{pivot, without, cleared, invertible, Inverse}
use Rattle.matrix.proofs.LayoutLaws.{matrix_of_ext, entry_below}
use Rattle.matrix.proofs.ProductLaws.{unit_below, row_by_ext, row_by_below, row_by_add, row_by_zero, row_by_row_by}
use Rattle.matrix.proofs.ProductLaws.{unit_row_by, row_by_unit}
use Rattle.matrix.proofs.EliminationLaws.{pivot_below, without_other, without_same, without_below, sum_without}
use Rattle.matrix.proofs.EliminationLaws.{Elements, cleared_below, cleared_row, not_zero}
use Rattle.matrix.proofs.Invertible.{entries_elements, inverse_entry, invertible_by}

module _ {F : Operations} (L : BinaryField F) where
  -- if the product of x and an element other than 0 is 0, x is 0
  no_divisor : (x a : ℕ) → 0 < a → a < F.size → x < F.size → F.mul x a ≡ 0 → x ≡ 0
  no_divisor x a pos below h e =
      let whole : F.mul (F.mul x a) (F.inv a) ≡ x = simp (ring, reciprocals) in
      sym whole ∙ ap (λ (y : ℕ). F.mul y (F.inv a)) e ∙ zero_mul L (F.inv a)

  -- weights x by which the n + 1 rows of a matrix with a pivot in row p add up to zeros
  module _ (n p : ℕ) (m : ℕ → ℕ → ℕ) (hp : p < suc n) (pos : 0 < m p n) (good : Elements F (suc n) m) (x : ℕ → ℕ)
      (zeros : (c : ℕ) → c < suc n → row_by F (suc n) x m c ≡ 0) where
    cleared_zeros : (c : ℕ) → c < n → row_by F n (λ i. x (without n p i)) (cleared F n p m) c ≡ 0
    cleared_zeros c hc =
        let z = F.mul (F.inv (m p n)) (m p c) in
        cleared_row L n p m hp pos good x c
        ∙ ap₂ (λ (s t : ℕ). F.add s (F.mul t z)) (zeros c (omega arith)) (zeros n (omega arith))
        ∙ zero_add L (F.mul 0 z)
        ∙ zero_mul L z

    -- if the weights of the other rows are zeros, so is the weight of the pivot's row
    all_zeros : x p < F.size → ((i : ℕ) → i < n → x (without n p i) ≡ 0) → (k : ℕ) → k < suc n → x k ≡ 0
    all_zeros bound low k h = at (ℕ_discrete k p) (ℕ_discrete k n)
      where
        own : x p ≡ 0
        own =
            no_divisor (x p) (m p n) pos (good p n hp (omega arith)) bound
            (sym (zero_add L (F.mul (x p) (m p n)))
            ∙ ap (λ (s : ℕ). F.add s (F.mul (x p) (m p n)))
            (sym (row_by_zero L n (λ i. x (without n p i)) (λ i. m (without n p i)) n low))
            ∙ sum_without L (λ i. F.mul (x i) (m i n)) n p hp
            ∙ zeros n (omega arith))

        at : Dec (k ≡ p) → Dec (k ≡ n) → x k ≡ 0
        at (yes d) q = ap x d ∙ own
        at (no d) (yes q) = ap x (q ∙ sym (without_same n p)) ∙ low p (omega arith)
        at (no d) (no q) = ap x (sym (without_other n p k d)) ∙ low k (omega arith)

  independent : (n : ℕ) (m : ℕ → ℕ → ℕ) → Elements F n m → invertible F n m ≡ true → (x : ℕ → ℕ)
      → ((k : ℕ) → k < n → x k < F.size)
      → ((c : ℕ) → c < n → row_by F n x m c ≡ 0) → (k : ℕ) → k < n → x k ≡ 0
  unfolding invertible
  independent zero m good e x bound zeros = λ k h. absurd (omega arith)
  independent (suc n) m good e x bound zeros =
      let p = pivot (λ i. m i n) n in
      let hp : p < suc n = omega (arith, pivot_below (λ i. m i n) n) in
      let pos = not_zero L (m p n) (and_left (not (eqb (m p n) 0)) (invertible F n (cleared F n p m)) e) in
      all_zeros n p m hp pos good x zeros (bound p hp)
      (independent n (cleared F n p m) (cleared_below L n p m hp pos good)
      (and_right (not (eqb (m p n) 0)) (invertible F n (cleared F n p m)) e)
      (λ i. x (without n p i)) (λ i b. bound (without n p i) (without_below n p i b))
      (cleared_zeros n p m hp pos good x zeros))

  -- two numbers that add up to 0 are equal
  same : (a u : ℕ) → F.add a u ≡ 0 → a ≡ u
  same a u e = sym (twice L u a) ∙ ap (F.add u) (add_comm L u a ∙ e) ∙ add_zero L u

  pub both_sides : (b m : List ℕ) → Matrix F.size m → Inverse F b m → Inverse F m b
  unfolding matrix_product identity
  both_sides b m good i =
      record {
        elements = good;
        gives_identity = matrix_of_ext product unit (λ r c hr hc. same (product r c) (unit r c) (none r hr c hc));
      }
    where
      product : ℕ → ℕ → ℕ
      product r = row_by F 8 (entry m r) (entry b)

      zeros : (r : ℕ) → r < 8 → (c : ℕ) → c < 8 → row_by F 8 (λ k. F.add (product r k) (unit r k)) (entry m) c ≡ 0
      zeros r hr c hc =
          let below = entry_below m r c good.below in
          row_by_add L 8 (product r) (unit r) (entry m) c
          ∙ ap₂ F.add
          (row_by_row_by L 8 8 (entry m r) (entry b) (entry m) c
          ∙ row_by_ext F 8 (entry m r) (entry m r) (λ k. row_by F 8 (entry b k) (entry m)) unit c (λ k h. refl)
          (λ k h. inverse_entry L b m i k c h hc)
          ∙ row_by_unit L 8 (entry m r) c hc below)
          (unit_row_by L 8 r (entry m) c hr below)
          ∙ L.add_self (entry m r c)

      none : (r : ℕ) → r < 8 → (c : ℕ) → c < 8 → F.add (product r c) (unit r c) ≡ 0
      none r hr =
          independent 8 (entry m) (entries_elements L m good) (invertible_by L m good b i)
          (λ k. F.add (product r k) (unit r k))
          (λ k h. L.add_below (row_by_below L 8 (entry m r) (entry b) k) (unit_below L r k)) (zeros r hr)
