-- Laws of a row times a matrix and of the product of matrices, over any binary field. A row times a matrix is linear in
-- the row. The product is associative and has the identity on both sides. A law names a bound only where it needs one:
-- products treat every number as an element.
use Prim.Native.Nat.{ℕ, ◌<◌}
use mathlib.Core.Path.{◌≡◌, sym, ap, ◌∙◌}
use mathlib.Core.List.{List}
use native.Mathlib.Decide.{ℕ_discrete}
use borrow.Author.Tests.{eq-eqb, ne_eqb}
use Rattle.field.specs.Binary.{Operations, BinaryField}
use Rattle.field.proofs.Ring.{add_mul, zero_mul, mul_zero, mul_one}
use Rattle.matrix.specs.Layout.{entry, matrix_of, Matrix}
use Rattle.matrix.specs.Product.{sum, row_by, unit, identity, matrix_product}
use Rattle.matrix.proofs.LayoutLaws.{entry_matrix_of, matrix_of_ext, by_entries, entry_below, matrix_of_good}
use Rattle.matrix.proofs.SumLaws.{sum_ext, sum_zeros, sum_alone, sum_add, mul_sum, sum_mul, sum_exchange}
use Rattle.matrix.proofs.SumLaws.{sum_below}

-- ---- the identity, as a function of row and column

pub unit_same : (r c : ℕ) → r ≡ c → unit r c ≡ 1
unit_same r c e = rw (eq-eqb r c e)

pub unit_other : (r c : ℕ) → (r ≡ c → ⊥) → unit r c ≡ 0
unit_other r c h = rw (ne_eqb r c h)

pub unit_below : {F : Operations} (L : BinaryField F) (r c : ℕ) → unit r c < F.size
unit_below {F} L r c = at (ℕ_discrete r c)
  where
    at : Dec (r ≡ c) → unit r c < F.size
    at (yes e) = rw (eq-eqb r c e) L.one_below
    at (no d) = rw (ne_eqb r c d) L.zero_below

-- ---- a row times a matrix, of any size

pub row_by_ext : (F : Operations) (n : ℕ) (u v : ℕ → ℕ) (m m' : ℕ → ℕ → ℕ) (c : ℕ) → ((k : ℕ) → k < n → u k ≡ v k)
    → ((k : ℕ) → k < n → m k c ≡ m' k c) → row_by F n u m c ≡ row_by F n v m' c
row_by_ext F n u v m m' c p q =
    sum_ext F (λ k. F.mul (u k) (m k c)) (λ k. F.mul (v k) (m' k c)) n (λ k h. λ j. F.mul (p k h j) (q k h j))

module _ {F : Operations} (L : BinaryField F) where
  pub row_by_below : (n : ℕ) (row : ℕ → ℕ) (m : ℕ → ℕ → ℕ) (c : ℕ) → row_by F n row m c < F.size
  row_by_below n row m c = sum_below L (λ k. F.mul (row k) (m k c)) n (λ k h. L.mul_below (row k) (m k c))

  -- a row times a matrix is linear in the row
  pub row_by_add : (n : ℕ) (u v : ℕ → ℕ) (m : ℕ → ℕ → ℕ) (c : ℕ)
      → row_by F n (λ k. F.add (u k) (v k)) m c ≡ F.add (row_by F n u m c) (row_by F n v m c)
  row_by_add n u v m c =
      sum_ext F (λ k. F.mul (F.add (u k) (v k)) (m k c)) (λ k. F.add (F.mul (u k) (m k c)) (F.mul (v k) (m k c))) n
      (λ k h. add_mul L (u k) (v k) (m k c))
      ∙ sum_add L (λ k. F.mul (u k) (m k c)) (λ k. F.mul (v k) (m k c)) n

  pub row_by_mul : (n a : ℕ) (row : ℕ → ℕ) (m : ℕ → ℕ → ℕ) (c : ℕ)
      → row_by F n (λ k. F.mul a (row k)) m c ≡ F.mul a (row_by F n row m c)
  row_by_mul n a row m c =
      sum_ext F (λ k. F.mul (F.mul a (row k)) (m k c)) (λ k. F.mul a (F.mul (row k) (m k c))) n
      (λ k h. L.mul_assoc a (row k) (m k c))
      ∙ sym (mul_sum L a (λ k. F.mul (row k) (m k c)) n)

  pub row_by_zero : (n : ℕ) (row : ℕ → ℕ) (m : ℕ → ℕ → ℕ) (c : ℕ) → ((k : ℕ) → k < n → row k ≡ 0)
      → row_by F n row m c ≡ 0
  row_by_zero n row m c z =
      sum_zeros L (λ k. F.mul (row k) (m k c)) n (λ k h. ap (λ (x : ℕ). F.mul x (m k c)) (z k h) ∙ zero_mul L (m k c))

  -- a row times a column of zeros is 0
  pub row_by_column_zero : (n : ℕ) (row : ℕ → ℕ) (m : ℕ → ℕ → ℕ) (c : ℕ) → ((k : ℕ) → k < n → m k c ≡ 0)
      → row_by F n row m c ≡ 0
  row_by_column_zero n row m c z =
      sum_zeros L (λ k. F.mul (row k) (m k c)) n (λ k h. ap (F.mul (row k)) (z k h) ∙ mul_zero L (row k))

  -- a row times two matrices, one after the other, is the row times their product
  pub row_by_row_by : (n l : ℕ) (row : ℕ → ℕ) (a b : ℕ → ℕ → ℕ) (c : ℕ)
      → row_by F l (row_by F n row a) b c ≡ row_by F n row (λ k. row_by F l (a k) b) c
  row_by_row_by n l row a b c =
      sum_ext F (λ k. F.mul (row_by F n row a k) (b k c))
      (λ k. sum F (λ j. F.mul (F.mul (row j) (a j k)) (b k c)) n) l
      (λ k h. sum_mul L (λ j. F.mul (row j) (a j k)) (b k c) n)
      ∙ sum_exchange L (λ k j. F.mul (F.mul (row j) (a j k)) (b k c)) l n
      ∙ sum_ext F (λ j. sum F (λ k. F.mul (F.mul (row j) (a j k)) (b k c)) l)
      (λ j. F.mul (row j) (row_by F l (a j) b c)) n (λ j h. row_by_mul l (row j) (a j) b c)

  -- row r of the identity times a matrix is row r of the matrix
  pub unit_row_by : (n r : ℕ) (m : ℕ → ℕ → ℕ) (c : ℕ) → r < n → m r c < F.size → row_by F n (unit r) m c ≡ m r c
  unit_row_by n r m c hr hm =
      sum_alone L (λ k. F.mul (unit r k) (m k c)) n r hr
      (λ k h d. ap (λ (x : ℕ). F.mul x (m k c)) (unit_other r k (λ e. d (sym e))) ∙ zero_mul L (m k c))
      ∙ ap (λ (x : ℕ). F.mul x (m r c)) (unit_same r r (λ j. r))
      ∙ L.one_mul hm

  -- a row times the identity is the row
  pub row_by_unit : (n : ℕ) (row : ℕ → ℕ) (c : ℕ) → c < n → row c < F.size → row_by F n row unit c ≡ row c
  row_by_unit n row c hc h =
      sum_alone L (λ k. F.mul (row k) (unit k c)) n c hc
      (λ k b d. ap (F.mul (row k)) (unit_other k c d) ∙ mul_zero L (row k))
      ∙ ap (F.mul (row c)) (unit_same c c (λ j. c))
      ∙ mul_one L (row c) h

-- ---- 8 by 8 matrices

module _ {F : Operations} (L : BinaryField F) where
  -- a product has 64 elements of the field, whatever the two lists hold
  pub product_elements : (a b : List ℕ) → Matrix F.size (matrix_product F a b)
  unfolding matrix_product
  product_elements a b =
      matrix_of_good (λ r. row_by F 8 (entry a r) (entry b)) L.zero_below
      (λ r c hr hc. row_by_below L 8 (entry a r) (entry b) c)

  pub identity_elements : Matrix F.size identity
  unfolding identity
  identity_elements = matrix_of_good unit L.zero_below (λ r c hr hc. unit_below L r c)

  pub product_assoc : (a b c : List ℕ)
      → matrix_product F (matrix_product F a b) c ≡ matrix_product F a (matrix_product F b c)
  unfolding matrix_product
  product_assoc a b c =
      let ab : ℕ → ℕ → ℕ = λ r. row_by F 8 (entry a r) (entry b) in
      let bc : ℕ → ℕ → ℕ = λ r. row_by F 8 (entry b r) (entry c) in
      matrix_of_ext (λ r. row_by F 8 (entry (matrix_of ab) r) (entry c))
      (λ r. row_by F 8 (entry a r) (entry (matrix_of bc)))
      (λ r j hr hj.
      row_by_ext F 8 (entry (matrix_of ab) r) (ab r) (entry c) (entry c) j (λ k h. entry_matrix_of ab r k hr h)
      (λ k h. λ i. entry c k j)
      ∙ row_by_row_by L 8 8 (entry a r) (entry b) (entry c) j
      ∙ sym (row_by_ext F 8 (entry a r) (entry a r) (entry (matrix_of bc)) bc j (λ k h. λ i. entry a r k)
      (λ k h. entry_matrix_of bc k j h hj)))

  pub identity_left : (m : List ℕ) → Matrix F.size m → matrix_product F identity m ≡ m
  unfolding matrix_product identity
  identity_left m good =
      sym (by_entries m (λ r. row_by F 8 (entry (matrix_of unit) r) (entry m)) good.size
      (λ r c hr hc.
      sym (row_by_ext F 8 (entry (matrix_of unit) r) (unit r) (entry m) (entry m) c
      (λ k h. entry_matrix_of unit r k hr h)
      (λ k h. λ i. entry m k c)
      ∙ unit_row_by L 8 r (entry m) c hr (entry_below m r c good.below))))

  pub identity_right : (m : List ℕ) → Matrix F.size m → matrix_product F m identity ≡ m
  unfolding matrix_product identity
  identity_right m good =
      sym (by_entries m (λ r. row_by F 8 (entry m r) (entry (matrix_of unit))) good.size
      (λ r c hr hc.
      sym (row_by_ext F 8 (entry m r) (entry m r) (entry (matrix_of unit)) unit c (λ k h. λ i. entry m r k)
      (λ k h. entry_matrix_of unit k c h hc)
      ∙ row_by_unit L 8 (entry m r) c hc (entry_below m r c good.below))))
