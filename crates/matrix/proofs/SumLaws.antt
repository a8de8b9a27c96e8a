-- Laws of sums over any binary field: equal terms, zeros, a single term that is not zero, sums of sums, multiples, two
-- sums exchanged, bounds.
use Prim.Native.Nat.{ℕ, zero, suc, ◌+◌, ◌<◌}
use mathlib.Core.Path.{◌≡◌, refl, sym, ap, ap₂, ◌∙◌}
use native.Mathlib.Numerals.{add-one}
use native.Mathlib.Omega.{arith}
use native.Mathlib.Decide.{ℕ_discrete}
use Rattle.field.specs.Binary.{Operations, BinaryField}
use Rattle.field.proofs.Ring.{ring, add_zero, mul_zero}
use Rattle.matrix.specs.Product.{sum}

-- a sum of n + 1 terms is the sum of the first n terms plus the last term
pub sum_next : (F : Operations) (f : ℕ → ℕ) (n : ℕ) → sum F f (n + 1) ≡ F.add (sum F f n) (f n)
unfolding sum
sum_next F f n = rw (add-one n)

-- sums of equal terms are equal
pub sum_ext : (F : Operations) (f g : ℕ → ℕ) (n : ℕ) → ((k : ℕ) → k < n → f k ≡ g k) → sum F f n ≡ sum F g n
unfolding sum
sum_ext F f g zero h = refl
sum_ext F f g (suc n) h = ap₂ F.add (sum_ext F f g n (λ k b. h k (omega arith))) (h n (omega arith))

module _ {F : Operations} (L : BinaryField F) where
  -- a sum of zeros is zero
  pub sum_zeros : (f : ℕ → ℕ) (n : ℕ) → ((k : ℕ) → k < n → f k ≡ 0) → sum F f n ≡ 0
  unfolding sum
  sum_zeros f zero h = refl
  sum_zeros f (suc n) h = ap₂ F.add (sum_zeros f n (λ k b. h k (omega arith))) (h n (omega arith)) ∙ L.zero_add 0

  -- if all terms except one are zero, the sum is that term
  pub sum_alone : (f : ℕ → ℕ) (n p : ℕ) → p < n → ((k : ℕ) → k < n → (k ≡ p → ⊥) → f k ≡ 0) → sum F f n ≡ f p
  unfolding sum
  sum_alone f zero p hp h = absurd (omega arith)
  sum_alone f (suc n) p hp h = at (ℕ_discrete n p) (λ d. sum_alone f n p d (λ k b. h k (omega arith)))
    where
      at : Dec (n ≡ p) → (p < n → sum F f n ≡ f p) → F.add (sum F f n) (f n) ≡ f p
      at (yes e) rec =
          ap₂ F.add (sum_zeros f n (λ k b. h k (omega arith) (λ d. omega arith))) (ap f e) ∙ L.zero_add (f p)
      at (no d) rec = ap₂ F.add (rec (omega arith)) (h n (omega arith) d) ∙ add_zero L (f p)

  -- the sum of f k + g k is the sum of f plus the sum of g
  pub sum_add : (f g : ℕ → ℕ) (n : ℕ) → sum F (λ k. F.add (f k) (g k)) n ≡ F.add (sum F f n) (sum F g n)
  unfolding sum
  sum_add f g zero = sym (L.zero_add 0)
  sum_add f g (suc n) =
      ap (λ (x : ℕ). F.add x (F.add (f n) (g n))) (sum_add f g n) ∙ four (sum F f n) (sum F g n) (f n) (g n)
    where
      four : (a b x y : ℕ) → F.add (F.add a b) (F.add x y) ≡ F.add (F.add a x) (F.add b y)
      four a b x y = simp ring

  -- a multiple of a sum is the sum of the multiples
  pub mul_sum : (a : ℕ) (f : ℕ → ℕ) (n : ℕ) → F.mul a (sum F f n) ≡ sum F (λ k. F.mul a (f k)) n
  unfolding sum
  mul_sum a f zero = mul_zero L a
  mul_sum a f (suc n) = L.mul_add a (sum F f n) (f n) ∙ ap (λ (x : ℕ). F.add x (F.mul a (f n))) (mul_sum a f n)

  pub sum_mul : (f : ℕ → ℕ) (a : ℕ) (n : ℕ) → F.mul (sum F f n) a ≡ sum F (λ k. F.mul (f k) a) n
  sum_mul f a n =
      L.mul_comm (sum F f n) a ∙ mul_sum a f n
      ∙ sum_ext F (λ k. F.mul a (f k)) (λ k. F.mul (f k) a) n (λ k h. L.mul_comm a (f k))

  -- two nested sums may be exchanged
  pub sum_exchange : (f : ℕ → ℕ → ℕ) (n m : ℕ)
      → sum F (λ i. sum F (λ j. f i j) m) n ≡ sum F (λ j. sum F (λ i. f i j) n) m
  unfolding sum
  sum_exchange f zero m = sym (sum_zeros (λ j. 0) m (λ k h. refl))
  sum_exchange f (suc n) m =
      ap (λ (x : ℕ). F.add x (sum F (λ j. f n j) m)) (sum_exchange f n m)
      ∙ sym (sum_add (λ j. sum F (λ i. f i j) n) (λ j. f n j) m)

  -- a sum of elements is an element
  pub sum_below : (f : ℕ → ℕ) (n : ℕ) → ((k : ℕ) → k < n → f k < F.size) → sum F f n < F.size
  unfolding sum
  sum_below f zero h = L.zero_below
  sum_below f (suc n) h = L.add_below (sum_below f n (λ k b. h k (omega arith))) (h n (omega arith))
