-- Laws of elimination in place: what one iteration of each loop stores, and that clearing a column in place agrees with
-- the definition. Elimination reads only the entries within its size.
use Prim.Native.Nat.{ℕ, zero, suc, ◌+◌, ◌-◌, ◌<◌, ◌≤◌}
use mathlib.Core.Path.{◌≡◌, refl, sym, ap, ap₂, ◌∙◌}
use mathlib.Core.Bool.{Bool, true, false, cond, not, ◌&&◌}
use mathlib.Core.List.{List}
use native.Mathlib.Numerals.{add-one}
use native.Mathlib.Omega.{arith}
use native.Mathlib.Decide.{ℕ_discrete}
use borrow.Author.Tests.{eq-eqb, ne_eqb}
use lib.Dec.{eqb}
use lib.ListN.{length, set, length-set}
use Rattle.field.specs.Binary.{Operations, BinaryField}
use Rattle.field.proofs.Ring.{add_zero, mul_zero}
use Rattle.matrix.specs.Layout.{place, entry}
use Rattle.matrix.specs.Elimination.{pivot, without, cleared, invertible}
use Rattle.matrix.specs.steps.Sweeping.{Raised, RowGained, gain, Swept}
use Rattle.matrix.proofs.StoreLaws.{store_same, store_other}
use Rattle.matrix.proofs.EliminationLaws.{pivot_below, without_other, without_same, without_below}

-- ---- the pivot, from the last row back

pivot_here : (column : ℕ → ℕ) (p : ℕ) → (column p ≡ 0 → ⊥) → pivot column p ≡ p
unfolding pivot
pivot_here column zero h = refl
pivot_here column (suc p) h = rw (ne_eqb (column (suc p)) 0 h)

pivot_back : (column : ℕ → ℕ) (p : ℕ) → 0 < p → column p ≡ 0 → pivot column p ≡ pivot column (p - 1)
unfolding pivot
pivot_back column zero pos z = absurd (omega arith)
pivot_back column (suc p) pos z = let e : suc p - 1 ≡ p = omega arith in rw (e, eq-eqb (column (suc p)) 0 z)

-- the pivot is the last entry that is not zero
pub pivot_found : (column : ℕ → ℕ) (n p : ℕ) → p ≤ n → (column p ≡ 0 → ⊥)
    → ((k : ℕ) → p < k → k ≤ n → column k ≡ 0)
    → p ≡ pivot column n
pivot_found column zero p h d zeros =
    let e : p ≡ 0 = omega arith in
    e ∙ sym (pivot_here column 0 (λ z. d (ap column e ∙ z)))
pivot_found column (suc n) p h d zeros =
    go (ℕ_discrete p (suc n)) (λ l. pivot_found column n p l d (λ k a b. zeros k a (omega arith)))
  where
    go : Dec (p ≡ suc n) → (p ≤ n → p ≡ pivot column n) → p ≡ pivot column (suc n)
    go (yes e) rest = e ∙ sym (pivot_here column (suc n) (λ z. d (ap column e ∙ z)))
    go (no e) rest =
        let back : suc n - 1 ≡ n = omega arith in
        let last : column (suc n) ≡ 0 = zeros (suc n) (omega arith) (omega arith) in
        rest (omega arith) ∙ sym (pivot_back column (suc n) (omega arith) last ∙ ap (pivot column) back)

-- without an entry that is not zero, the pivot's entry is zero
pub pivot_zero : (column : ℕ → ℕ) (n : ℕ) → ((k : ℕ) → k ≤ n → column k ≡ 0) → column (pivot column n) ≡ 0
pivot_zero column n zeros = zeros (pivot column n) (pivot_below column n)

-- ---- elimination reads only the entries within its size

pivot_same : (f g : ℕ → ℕ) (n : ℕ) → ((i : ℕ) → i < suc n → f i ≡ g i) → pivot f n ≡ pivot g n
unfolding pivot
pivot_same f g zero h = refl
pivot_same f g (suc n) h =
    ap₂ (λ (x p : ℕ). cond (eqb x 0) p (suc n)) (h (suc n) (omega arith)) (pivot_same f g n (λ i b. h i (omega arith)))

cleared_same : (F : Operations) (n p : ℕ) (m m' : ℕ → ℕ → ℕ) → p < suc n
    → ((i c : ℕ) → i < suc n → c < suc n → m i c ≡ m' i c)
    → (i c : ℕ) → i < n → c < n → cleared F n p m i c ≡ cleared F n p m' i c
unfolding cleared
cleared_same F n p m m' hp same i c hi hc =
    let w = without n p i in
    let hw = without_below n p i hi in
    λ j. F.add (same w c hw (omega arith) j)
    (F.mul (same w n hw (omega arith) j) (F.mul (F.inv (same p n hp (omega arith) j)) (same p c hp (omega arith) j)))

pub invertible_same : (F : Operations) (n : ℕ) (m m' : ℕ → ℕ → ℕ) → ((i c : ℕ) → i < n → c < n → m i c ≡ m' i c)
    → invertible F n m ≡ invertible F n m'
unfolding invertible
invertible_same F zero m m' same = refl
invertible_same F (suc n) m m' same =
    let p = pivot (λ i. m i n) n in
    let hp : p < suc n = omega (arith, pivot_below (λ i. m i n) n) in
    let e : p ≡ pivot (λ i. m' i n) n = pivot_same (λ i. m i n) (λ i. m' i n) n (λ i h. same i n h (omega arith)) in
    ap₂ (λ (x : ℕ) (b : Bool). not (eqb x 0) && b) (same p n hp (omega arith))
    (invertible_same F n (cleared F n p m) (cleared F n p m') (cleared_same F n p m m' hp same))
    ∙ ap (λ (k : ℕ). not (eqb (m' k n) 0) && invertible F n (cleared F n k m')) e

-- ---- the pivot's row raised, column by column

pub raised_start : (n p : ℕ) (m : List ℕ) → length m ≡ 64 → Raised n p 0 m m
raised_start n p m l =
    record {
      size = l;
      last = λ c h. absurd (omega arith);
      others = λ i c hi h. absurd (omega arith);
      rest = λ i c hi hc h. refl;
    }

module _ (n p j : ℕ) (m a : List ℕ) (hp : p ≤ n) (hn : n < 8) (hj : j ≤ n) (w : Raised n p j m a) where
  abbrev a₁ : List ℕ
  a₁ = set a (place p j) (entry a n j)

  abbrev a₂ : List ℕ
  a₂ = set a₁ (place n j) (entry a p j)

  size₁ : length a₁ ≡ 64
  size₁ = length-set a (place p j) (entry a n j) ∙ w.size

  away : (i c : ℕ) → i < 8 → c < 8 → (c ≡ j → ⊥) → entry a₂ i c ≡ entry a i c
  away i c hi hc d =
      store_other a₁ n j (entry a p j) hn (omega arith) i c hi hc (λ _ e. d e)
      ∙ store_other a p j (entry a n j) (omega arith) (omega arith) i c hi hc (λ _ e. d e)

  -- in column j, row p is still unchanged
  pub raised_own : entry a p j ≡ entry m p j
  raised_own = w.rest p j (omega arith) (omega arith) (omega arith)

  last_here : entry a₂ n j ≡ entry m p j
  last_here = store_same a₁ n j (entry a p j) hn (omega arith) size₁ ∙ raised_own

  other_here : (i : ℕ) → i < n → Dec (i ≡ p) → entry a₂ i j ≡ entry m (without n p i) j
  other_here i hi (yes e) =
      store_other a₁ n j (entry a p j) hn (omega arith) i j (omega arith) (omega arith) (λ d _. omega arith)
      ∙ ap (λ (k : ℕ). entry a₁ k j) e
      ∙ store_same a p j (entry a n j) (omega arith) (omega arith) w.size
      ∙ w.rest n j hn (omega arith) (omega arith)
      ∙ ap (λ (k : ℕ). entry m k j) (sym (ap (without n p) e ∙ without_same n p))
  other_here i hi (no d) =
      store_other a₁ n j (entry a p j) hn (omega arith) i j (omega arith) (omega arith) (λ e _. omega arith)
      ∙ store_other a p j (entry a n j) (omega arith) (omega arith) i j (omega arith) (omega arith) (λ e _. d e)
      ∙ w.rest i j (omega arith) (omega arith) (omega arith)
      ∙ ap (λ (k : ℕ). entry m k j) (sym (without_other n p i d))

  pub raised_next : Raised n p (j + 1) m a₂
  raised_next =
      record {
        size = length-set a₁ (place n j) (entry a p j) ∙ size₁;
        last = λ c h. last c h (ℕ_discrete c j);
        others = λ i c hi h. other i c hi h (ℕ_discrete c j);
        rest = λ i c hi hc h. away i c hi hc (λ e. omega arith) ∙ w.rest i c hi hc (omega arith);
      }
    where
      last : (c : ℕ) → c < j + 1 → Dec (c ≡ j) → entry a₂ n c ≡ entry m p c
      last c h (yes e) = rw e last_here
      last c h (no d) = away n c hn (omega arith) d ∙ w.last c (omega arith)

      other : (i c : ℕ) → i < n → c < j + 1 → Dec (c ≡ j) → entry a₂ i c ≡ entry m (without n p i) c
      other i c hi h (yes e) = rw e (other_here i hi (ℕ_discrete i p))
      other i c hi h (no d) = away i c (omega arith) (omega arith) d ∙ w.others i c hi (omega arith)

-- ---- a row swept, column by column

module _ (F : Operations) (g : ℕ → ℕ) (i : ℕ) (m : List ℕ) where
  pub row_start : length m ≡ 64 → RowGained F g i 0 m m
  row_start l = record { size = l; done = λ c h. absurd (omega arith); rest = λ r c hr hc h. refl }

  module _ (j : ℕ) (a : List ℕ) (hi : i < 8) (hj : j < 8) (w : RowGained F g i j m a) where
    abbrev gained : ℕ
    gained = F.add (entry a i j) (g j)

    pub row_next : RowGained F g i (j + 1) m (set a (place i j) gained)
    row_next =
        record {
          size = length-set a (place i j) gained ∙ w.size;
          done = λ c h. done c h (ℕ_discrete c j);
          rest = λ r c hr hc h.
              store_other a i j gained hi hj r c hr hc (λ e d. h e (omega arith))
              ∙ w.rest r c hr hc (λ e d. h e (omega arith));
        }
      where
        done : (c : ℕ) → c < j + 1 → Dec (c ≡ j) → entry (set a (place i j) gained) i c ≡ F.add (entry m i c) (g c)
        done c h (yes e) =
            rw e
            (store_same a i j gained hi hj w.size
            ∙ ap (λ (x : ℕ). F.add x (g j)) (w.rest i j hi hj (λ e d. omega arith)))
        done c h (no d) =
            store_other a i j gained hi hj i c hi (omega arith) (λ _ e. d e) ∙ w.done c (omega arith)

  pub row_same : (g' : ℕ → ℕ) (j : ℕ) (a : List ℕ) → ((c : ℕ) → c < j → g c ≡ g' c) → RowGained F g i j m a
      → RowGained F g' i j m a
  row_same g' j a same w =
      record { size = w.size; done = λ c h. w.done c h ∙ ap (F.add (entry m i c)) (same c h); rest = w.rest }

-- ---- the rows swept, one after another

pub swept_start : (F : Operations) (q n : ℕ) (m : List ℕ) → length m ≡ 64 → Swept F q n 0 m m
swept_start F q n m l = record { size = l; done = λ r c h hc. absurd (omega arith); rest = λ r c hr hc h. refl }

pub swept_next : (F : Operations) (q n i : ℕ) (m a b : List ℕ) → i < n → n < 8 → Swept F q n i m a
    → RowGained F (gain F q n a i) i n a b
    → Swept F q n (i + 1) m b
swept_next F q n i m a b hi hn w v =
    record {
      size = v.size;
      done = λ r c h hc. done r c h hc (ℕ_discrete r i);
      rest = λ r c hr hc h. v.rest r c hr hc (λ e d. omega arith) ∙ w.rest r c hr hc (omega arith);
    }
  where
    own : (c : ℕ) → c < n → entry b i c ≡ F.add (entry m i c) (gain F q n m i c)
    own c hc =
        let x = w.rest i c (omega arith) (omega arith) (omega arith) in
        let y = w.rest i n (omega arith) hn (omega arith) in
        let z = w.rest n c hn (omega arith) (omega arith) in
        v.done c hc ∙ (λ k. F.add (x k) (F.mul (F.mul q (y k)) (z k)))

    done : (r c : ℕ) → r < i + 1 → c < n → Dec (r ≡ i) → entry b r c ≡ F.add (entry m r c) (gain F q n m r c)
    done r c h hc (yes e) = rw e (own c hc)
    done r c h hc (no d) = v.rest r c (omega arith) (omega arith) (λ e _. d e) ∙ w.done r c (omega arith) hc

-- ---- a column cleared in place

module _ {F : Operations} (L : BinaryField F) (n : ℕ) (m : List ℕ) (p : ℕ) (at : p ≡ pivot (λ i. entry m i n) n) where
  pub clear_none : (b : Bool) → entry m p n ≡ 0 → invertible F (n + 1) (entry m) ≡ false && b
  unfolding invertible
  clear_none b z = rw (add-one n, ← at, eq-eqb (entry m p n) 0 z)

  -- the reciprocal of the pivot may multiply the row instead of the factor
  divided : (q x y : ℕ) → F.mul (F.mul q x) y ≡ F.mul x (F.mul q y)
  divided q x y = ap (λ (z : ℕ). F.mul z y) (L.mul_comm q x) ∙ L.mul_assoc x q y

  pub clear_some : (q : ℕ) (a b : List ℕ) → (entry m p n ≡ 0 → ⊥) → q ≡ F.inv (entry m p n) → Raised n p (n + 1) m a
      → Swept F q n n a b
      → n < 8 → invertible F (n + 1) (entry m) ≡ true && invertible F n (entry b)
  unfolding invertible cleared
  clear_some q a b d e w v hn =
      rw (add-one n, ← at, ne_eqb (entry m p n) 0 d)
      (invertible_same F n (cleared F n p (entry m)) (entry b) (λ i c hi hc. sym (same i c hi hc)))
    where
      same : (i c : ℕ) → i < n → c < n → entry b i c ≡ cleared F n p (entry m) i c
      same i c hi hc =
          let x = w.others i c hi (omega arith) in
          let y = w.others i n hi (omega arith) in
          let z = w.last c (omega arith) in
          v.done i c hi hc ∙ (λ k. F.add (x k) (F.mul (F.mul (e k) (y k)) (z k)))
          ∙ ap (F.add (entry m (without n p i) c))
          (divided (F.inv (entry m p n)) (entry m (without n p i) n) (entry m p c))

-- a column that needs no clearing: the entry on the diagonal is the only one of row n that is not zero
pub clear_alone : {F : Operations} → BinaryField F → (n : ℕ) (m : ℕ → ℕ → ℕ) → (m n n ≡ 0 → ⊥)
    → ((c : ℕ) → c < n → m n c ≡ 0)
    → invertible F (n + 1) m ≡ invertible F n m
unfolding invertible cleared
clear_alone {F} L n m d zeros =
    rw (add-one n, pivot_here (λ i. m i n) n d, ne_eqb (m n n) 0 d) (invertible_same F n (cleared F n n m) m same)
  where
    same : (i c : ℕ) → i < n → c < n → cleared F n n m i c ≡ m i c
    same i c hi hc =
        let q = F.inv (m n n) in
        ap (λ (k : ℕ). F.add (m k c) (F.mul (m k n) (F.mul q (m n c)))) (without_other n n i (λ e. omega arith))
        ∙ ap (λ (x : ℕ). F.add (m i c) (F.mul (m i n) (F.mul q x))) (zeros c hc)
        ∙ ap (λ (x : ℕ). F.add (m i c) (F.mul (m i n) x)) (mul_zero L q)
        ∙ ap (F.add (m i c)) (mul_zero L (m i n))
        ∙ add_zero L (m i c)
