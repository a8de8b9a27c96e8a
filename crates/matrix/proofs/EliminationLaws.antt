-- Elimination decides whether an n by n matrix of elements has a left inverse, over any binary field and for any n. A
-- left inverse has a row of weights for each row of the identity: the rows of the matrix, each times its weight, add up
-- to the row of the identity.
use Prim.Native.Nat.{ℕ, zero, suc, ◌<◌, ◌≤◌}
use mathlib.Core.Path.{◌≡◌, refl, sym, ap, ap₂, ◌∙◌}
use mathlib.Core.Bool.{Bool, true, false, cond, not, true≢false, false≢true}
use native.Mathlib.Omega.{arith}
use native.Mathlib.Decide.{ℕ_discrete, dec_lt}
use borrow.Author.Tests.{eq-eqb, ne_eqb, eqb-true}
use lib.Dec.{eqb}
use Rattle.base.proofs.ListLaws.{and_left, and_right, and_both}
use Rattle.field.specs.Binary.{Operations, BinaryField}
use Rattle.field.proofs.Ring.{ring, reciprocals, inv_mul, add_zero, twice, zero_mul}
use Rattle.matrix.specs.Product.{sum, row_by, unit}
use Rattle.matrix.specs.Elimination.{pivot, without, cleared, invertible}
use Rattle.matrix.proofs.SumLaws.{sum_ext, sum_alone, sum_add, sum_mul, sum_below}
use Rattle.matrix.proofs.ProductLaws.{unit_same, unit_other, row_by_ext, row_by_add, row_by_mul, row_by_zero}
use Rattle.matrix.proofs.ProductLaws.{row_by_column_zero, row_by_row_by, unit_row_by, row_by_unit}

-- ---- the pivot

pub pivot_below : (column : ℕ → ℕ) (n : ℕ) → pivot column n ≤ n
unfolding pivot
pivot_below column zero = omega arith
pivot_below column (suc n) = at (eqb (column (suc n)) 0) (pivot_below column n)
  where
    at : (b : Bool) → pivot column n ≤ n → cond b (pivot column n) (suc n) ≤ suc n
    at true h = omega arith
    at false h = omega arith

-- if the column is zero at its pivot, it is zero in all rows 0 to n
pivot_zero : (column : ℕ → ℕ) (n : ℕ) → column (pivot column n) ≡ 0 → (i : ℕ) → i < suc n → column i ≡ 0
unfolding pivot
pivot_zero column zero e i h = let z : i ≡ 0 = omega arith in ap column z ∙ e
pivot_zero column (suc n) e i h = at (eqb (column (suc n)) 0) refl e (λ d. pivot_zero column n d) (ℕ_discrete i (suc n))
  where
    at : (b : Bool) → eqb (column (suc n)) 0 ≡ b → column (cond b (pivot column n) (suc n)) ≡ 0
        → (column (pivot column n) ≡ 0 → (i : ℕ) → i < suc n → column i ≡ 0) → Dec (i ≡ suc n) → column i ≡ 0
    at true t d rec (yes s) = ap column s ∙ eqb-true (column (suc n)) 0 t
    at true t d rec (no s) = rec d i (omega arith)
    at false t d rec k = absurd (true≢false (sym (eq-eqb (column (suc n)) 0 d) ∙ t))

-- ---- the rows without the pivot's row

pub without_other : (n p i : ℕ) → (i ≡ p → ⊥) → without n p i ≡ i
unfolding without
without_other n p i h = rw (ne_eqb i p h)

pub without_same : (n p : ℕ) → without n p p ≡ n
unfolding without
without_same n p = rw (eq-eqb p p refl)

pub without_below : (n p i : ℕ) → i < n → without n p i < suc n
without_below n p i h = at (ℕ_discrete i p)
  where
    at : Dec (i ≡ p) → without n p i < suc n
    at (yes e) = let s : without n p i ≡ n = ap (without n p) e ∙ without_same n p in omega arith
    at (no d) = let s : without n p i ≡ i = without_other n p i d in omega arith

module _ {F : Operations} (L : BinaryField F) where
  -- a sum over all rows is the sum over the rows without row p, plus the term of row p
  pub sum_without : (f : ℕ → ℕ) (n p : ℕ) → p < suc n
      → F.add (sum F (λ i. f (without n p i)) n) (f p) ≡ sum F f (suc n)
  unfolding sum
  sum_without f n p h = at (ℕ_discrete p n)
    where
      at : Dec (p ≡ n) → F.add (sum F (λ i. f (without n p i)) n) (f p) ≡ F.add (sum F f n) (f n)
      at (yes e) =
          ap₂ F.add (sum_ext F (λ i. f (without n p i)) f n (λ i b. ap f (without_other n p i (λ d. omega arith))))
          (ap f e)
      at (no d) = moved (sum F (λ i. f (without n p i)) n) (sum F f n) (f p) (f n)
          (sym (sum_add L (λ i. f (without n p i)) f n)
          ∙ sum_alone L (λ i. F.add (f (without n p i)) (f i)) n p (omega arith)
          (λ i b k. ap (λ (j : ℕ). F.add (f j) (f i)) (without_other n p i k) ∙ L.add_self (f i))
          ∙ ap (λ (j : ℕ). F.add (f j) (f p)) (without_same n p))
        where
          moved : (a b x y : ℕ) → F.add a b ≡ F.add y x → F.add a x ≡ F.add b y
          moved a b x y e =
              sym (twice L b (F.add a x))
              ∙ (let s : F.add b (F.add a x) ≡ F.add (F.add a b) x = simp ring in
              ap (F.add b) (s ∙ ap (λ (z : ℕ). F.add z x) e))
              ∙ (let s : F.add (F.add y x) x ≡ y = simp ring in ap (F.add b) s)

-- ---- left inverses

-- the rows of an n by n matrix, each times its weight, add up to the given row
pub record Reached (F : Operations) (n : ℕ) (m : ℕ → ℕ → ℕ) (row : ℕ → ℕ) : Type 0 where
  pub weights : ℕ → ℕ
  pub reach : (c : ℕ) → c < n → row_by F n weights m c ≡ row c

-- a left inverse: every row of the identity is reached
abbrev pub LeftInverse : Operations → ℕ → (ℕ → ℕ → ℕ) → Type 0
LeftInverse F n m = (r : ℕ) → r < n → Reached F n m (unit r)

-- the entries of an n by n matrix are elements
abbrev pub Elements : Operations → ℕ → (ℕ → ℕ → ℕ) → Type 0
Elements F n m = (r c : ℕ) → r < n → c < n → m r c < F.size

module _ {F : Operations} (L : BinaryField F) where
  -- a row of the identity past the matrix is reached too: it has only zeros in the matrix's columns
  pub every_row : (n : ℕ) (m : ℕ → ℕ → ℕ) → LeftInverse F n m → (r : ℕ) → Reached F n m (unit r)
  every_row n m b r = at (dec_lt r n)
    where
      at : Dec (r < n) → Reached F n m (unit r)
      at (yes h) = b r h
      at (no h) =
          record {
            weights = λ k. 0;
            reach = λ c hc. row_by_zero L n (λ k. 0) m c (λ k b. refl) ∙ sym (unit_other r c (λ e. omega arith));
          }

  -- the term of the pivot's row drops out of a cleared sum. x is the weight of the pivot's row, y its entry and a the
  -- pivot
  cancel : (t u x y a : ℕ) → 0 < a → a < F.size
      → F.add t (F.mul u (F.mul (F.inv a) y))
      ≡ F.add (F.add t (F.mul x y)) (F.mul (F.add u (F.mul x a)) (F.mul (F.inv a) y))
  cancel t u x y a pos below = simp (ring, reciprocals)

  -- a row of the cleared matrix has 0 in the pivot's column
  cancel_own : (x a : ℕ) → 0 < a → a < F.size → x < F.size → F.add x (F.mul x (F.mul (F.inv a) a)) ≡ 0
  cancel_own x a pos below h = simp (ring, reciprocals)

  -- a weight times a cleared entry, multiplied out
  spread : (b x y z : ℕ) → F.mul b (F.add x (F.mul y z)) ≡ F.add (F.mul b x) (F.mul (F.mul b y) z)
  spread b x y z = simp ring

  -- a matrix of n + 1 rows with its pivot in row p
  module _ (n p : ℕ) (m : ℕ → ℕ → ℕ) (hp : p < suc n) (pos : 0 < m p n) (good : Elements F (suc n) m) where
    pub cleared_below : Elements F n (cleared F n p m)
    unfolding cleared
    cleared_below i j hi hj =
        L.add_below (good (without n p i) j (without_below n p i hi) (omega arith)) (L.mul_below _ _)

    cleared_last : (i : ℕ) → i < n → cleared F n p m i n ≡ 0
    unfolding cleared
    cleared_last i hi =
        cancel_own (m (without n p i) n) (m p n) pos (good p n hp (omega arith))
        (good (without n p i) n (without_below n p i hi) (omega arith))

    -- the cleared rows, under the weights b, add up to the sum of all rows, cleared in column n
    pub cleared_row : (b : ℕ → ℕ) (c : ℕ)
        → row_by F n (λ i. b (without n p i)) (cleared F n p m) c
        ≡ F.add (row_by F (suc n) b m c) (F.mul (row_by F (suc n) b m n) (F.mul (F.inv (m p n)) (m p c)))
    unfolding cleared
    cleared_row b c =
        sum_ext F (λ i. F.mul (b (without n p i)) (cleared F n p m i c))
        (λ i. F.add (left (without n p i)) (F.mul (right (without n p i)) z)) n
        (λ i h. spread (b (without n p i)) (m (without n p i) c) (m (without n p i) n) z)
        ∙ sum_add L (λ i. left (without n p i)) (λ i. F.mul (right (without n p i)) z) n
        ∙ ap (F.add (sum F (λ i. left (without n p i)) n)) (sym (sum_mul L (λ i. right (without n p i)) z n))
        ∙ cancel (sum F (λ i. left (without n p i)) n) (sum F (λ i. right (without n p i)) n) (b p) (m p c) (m p n) pos
        (good p n hp (omega arith))
        ∙ ap₂ (λ (s t : ℕ). F.add s (F.mul t z)) (sum_without L left n p hp) (sum_without L right n p hp)
      where
        z : ℕ
        z = F.mul (F.inv (m p n)) (m p c)

        left : ℕ → ℕ
        left k = F.mul (b k) (m k c)

        right : ℕ → ℕ
        right k = F.mul (b k) (m k n)

    -- a left inverse of the matrix, without the weights of the pivot's row, is a left inverse of the cleared matrix
    cleared_inverse : LeftInverse F (suc n) m → LeftInverse F n (cleared F n p m)
    cleared_inverse b r hr = go (b r (omega arith))
      where
        go : Reached F (suc n) m (unit r) → Reached F n (cleared F n p m) (unit r)
        go w =
            record {
              weights = λ i. w.weights (without n p i);
              reach = λ c hc.
                  let z = F.mul (F.inv (m p n)) (m p c) in
                  cleared_row w.weights c
                  ∙ ap₂ (λ (s t : ℕ). F.add s (F.mul t z)) (w.reach c (omega arith))
                  (w.reach n (omega arith) ∙ unit_other r n (λ e. omega arith))
                  ∙ ap (F.add (unit r c)) (zero_mul L z)
                  ∙ add_zero L (unit r c);
            }

    -- turns the weights v of the cleared matrix's rows into weights of the matrix's rows. The pivot's row gets the
    -- weight that makes column n zero
    raised : (ℕ → ℕ) → ℕ → ℕ
    raised v k =
        cond (eqb k p) (F.mul (F.inv (m p n)) (sum F (λ i. F.mul (v i) (m (without n p i) n)) n))
        (v (cond (eqb k n) p k))

    raised_own : (v : ℕ → ℕ) → raised v p ≡ F.mul (F.inv (m p n)) (sum F (λ i. F.mul (v i) (m (without n p i) n)) n)
    unfolding raised
    raised_own v = rw (eq-eqb p p refl)

    raised_other : (v : ℕ → ℕ) (i : ℕ) → i < n → raised v (without n p i) ≡ v i
    unfolding raised without
    raised_other v i h = at (ℕ_discrete i p)
      where
        at : Dec (i ≡ p) → raised v (cond (eqb i p) n i) ≡ v i
        at (yes e) =
            let d : eqb n p ≡ false = ne_eqb n p (λ k. omega arith) in
            rw (eq-eqb i p e, d, eq-eqb n n refl) (ap v (sym e))
        at (no d) =
            let f : eqb i n ≡ false = ne_eqb i n (λ k. omega arith) in
            simp (ne_eqb i p d, f)

    -- under the raised weights, column n adds up to zero
    column_zero : (v : ℕ → ℕ) → row_by F (suc n) (raised v) m n ≡ 0
    column_zero v =
        sym (sum_without L (λ k. F.mul (raised v k) (m k n)) n p hp)
        ∙ ap₂ F.add
        (sum_ext F (λ i. F.mul (raised v (without n p i)) (m (without n p i) n))
        (λ i. F.mul (v i) (m (without n p i) n)) n
        (λ i h. ap (λ (x : ℕ). F.mul x (m (without n p i) n)) (raised_other v i h)))
        (ap (λ (x : ℕ). F.mul x (m p n)) (raised_own v))
        ∙ gone (sum F (λ i. F.mul (v i) (m (without n p i) n)) n) (m p n) pos (good p n hp (omega arith))
        (sum_below L (λ i. F.mul (v i) (m (without n p i) n)) n (λ i h. L.mul_below _ _))
      where
        gone : (x a : ℕ) → 0 < a → a < F.size → x < F.size → F.add x (F.mul (F.mul (F.inv a) x) a) ≡ 0
        gone x a above below h = simp (ring, reciprocals)

    -- the matrix under the raised weights gives the row that the cleared matrix gives under the weights v
    raised_row : (v : ℕ → ℕ) (c : ℕ) → row_by F (suc n) (raised v) m c ≡ row_by F n v (cleared F n p m) c
    raised_row v c =
        let z = F.mul (F.inv (m p n)) (m p c) in
        sym
        (sym (row_by_ext F n (λ i. raised v (without n p i)) v (cleared F n p m) (cleared F n p m) c
        (raised_other v) (λ k h. refl))
        ∙ cleared_row (raised v) c
        ∙ ap (λ (t : ℕ). F.add (row_by F (suc n) (raised v) m c) (F.mul t z)) (column_zero v)
        ∙ ap (F.add (row_by F (suc n) (raised v) m c)) (zero_mul L z)
        ∙ add_zero L (row_by F (suc n) (raised v) m c))

    -- a left inverse of the cleared matrix gives a left inverse of the matrix
    module _ (b : LeftInverse F n (cleared F n p m)) where
      -- the weights that reach the rows of the identity above the last row
      above : ℕ → ℕ → ℕ
      above r = raised (every_row n (cleared F n p m) b r).weights

      reach_above : (r c : ℕ) → r < n → c < suc n → row_by F (suc n) (above r) m c ≡ unit r c
      unfolding above
      reach_above r c hr hc = at (dec_lt c n) (every_row n (cleared F n p m) b r)
        where
          at : Dec (c < n) → (w : Reached F n (cleared F n p m) (unit r))
              → row_by F (suc n) (raised w.weights) m c ≡ unit r c
          at (yes h) w = raised_row w.weights c ∙ w.reach c h
          at (no h) w =
              let e : c ≡ n = omega arith in
              ap (row_by F (suc n) (raised w.weights) m) e ∙ column_zero w.weights
              ∙ sym (unit_other r c (λ d. omega arith))

      -- the last row of the identity is the pivot's row divided by the pivot, less its entries in the other columns
      divided : ℕ → ℕ
      divided j = F.mul (F.inv (m p n)) (m p j)

      last : ℕ → ℕ
      last k = F.add (F.mul (F.inv (m p n)) (unit p k)) (row_by F n divided above k)

      left_over : (c : ℕ) → c < suc n → F.add (divided c) (row_by F n divided unit c) ≡ unit n c
      unfolding divided
      left_over c hc = at (ℕ_discrete c n)
        where
          at : Dec (c ≡ n) → F.add (divided c) (row_by F n divided unit c) ≡ unit n c
          at (yes e) =
              ap₂ F.add (ap divided e ∙ inv_mul L (m p n) pos (good p n hp (omega arith)))
              (row_by_column_zero L n divided unit c (λ k h. unit_other k c (λ d. omega arith)))
              ∙ add_zero L 1
              ∙ sym (unit_same n c (sym e))
          at (no d) =
              ap (F.add (divided c)) (row_by_unit L n divided c (omega arith) (L.mul_below (F.inv (m p n)) (m p c)))
              ∙ L.add_self (divided c)
              ∙ sym (unit_other n c (λ e. d (sym e)))

      reach_last : (c : ℕ) → c < suc n → row_by F (suc n) last m c ≡ unit n c
      unfolding last divided
      reach_last c hc =
          let q = F.inv (m p n) in
          row_by_add L (suc n) (λ k. F.mul q (unit p k)) (row_by F n divided above) m c
          ∙ ap₂ F.add
          (row_by_mul L (suc n) q (unit p) m c ∙ ap (F.mul q) (unit_row_by L (suc n) p m c hp (good p c hp hc)))
          (row_by_row_by L n (suc n) divided above m c
          ∙ row_by_ext F n divided divided (λ j. row_by F (suc n) (above j) m) unit c (λ k h. refl)
          (λ k h. reach_above k c h hc))
          ∙ left_over c hc

      whole_inverse : LeftInverse F (suc n) m
      whole_inverse r hr = at (ℕ_discrete r n)
        where
          at : Dec (r ≡ n) → Reached F (suc n) m (unit r)
          at (yes e) = record { weights = last; reach = λ c hc. reach_last c hc ∙ ap (λ (k : ℕ). unit k c) (sym e) }
          at (no d) = record { weights = above r; reach = λ c hc. reach_above r c (omega arith) hc }

  -- ---- elimination decides

  -- if there is a left inverse, the last column has a pivot: otherwise the product would have 0 in its last row and
  -- column
  pivot_found : (n : ℕ) (m : ℕ → ℕ → ℕ) → LeftInverse F (suc n) m → 0 < m (pivot (λ i. m i n) n) n
  pivot_found n m b = at (ℕ_discrete (m (pivot (λ i. m i n) n) n) 0) (b n (omega arith))
    where
      at : Dec (m (pivot (λ i. m i n) n) n ≡ 0) → Reached F (suc n) m (unit n) → 0 < m (pivot (λ i. m i n) n) n
      at (yes z) w =
          let e : ◌≡◌ {A = ℕ} 0 1 = sym (row_by_column_zero L (suc n) w.weights m n (pivot_zero (λ i. m i n) n z))
          ∙ w.reach n (omega arith) ∙ unit_same n n refl in
          absurd (omega arith)
      at (no d) w = omega arith

  pub inverse_found : (n : ℕ) (m : ℕ → ℕ → ℕ) → Elements F n m → LeftInverse F n m → invertible F n m ≡ true
  unfolding invertible
  inverse_found zero m good b = refl
  inverse_found (suc n) m good b =
      let p = pivot (λ i. m i n) n in
      let hp : p < suc n = omega (arith, pivot_below (λ i. m i n) n) in
      let pos = pivot_found n m b in
      and_both (ap not (ne_eqb (m p n) 0 (λ e. omega arith)))
      (inverse_found n (cleared F n p m) (cleared_below n p m hp pos good) (cleared_inverse n p m hp pos good b))

  pub not_zero : (x : ℕ) → not (eqb x 0) ≡ true → 0 < x
  not_zero x e = at (ℕ_discrete x 0)
    where
      at : Dec (x ≡ 0) → 0 < x
      at (yes z) = absurd (false≢true (sym (ap not (eq-eqb x 0 z)) ∙ e))
      at (no d) = omega arith

  pub found_inverse : (n : ℕ) (m : ℕ → ℕ → ℕ) → Elements F n m → invertible F n m ≡ true → LeftInverse F n m
  unfolding invertible
  found_inverse zero m good e = λ r h. absurd (omega arith)
  found_inverse (suc n) m good e =
      let p = pivot (λ i. m i n) n in
      let hp : p < suc n = omega (arith, pivot_below (λ i. m i n) n) in
      let pos = not_zero (m p n) (and_left (not (eqb (m p n) 0)) (invertible F n (cleared F n p m)) e) in
      whole_inverse n p m hp pos good
      (found_inverse n (cleared F n p m) (cleared_below n p m hp pos good)
      (and_right (not (eqb (m p n) 0)) (invertible F n (cleared F n p m)) e))
