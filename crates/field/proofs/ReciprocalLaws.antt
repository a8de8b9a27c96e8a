-- The reciprocal is the first element that passes a test. The search finds it if there is one. It is below the size,
-- and no other element passes the test. The laws hold for every degree from 1 on and every polynomial of that degree.
use Prim.Native.Nat.{ℕ, zero, suc, ◌+◌, ◌^◌, ◌≤◌, ◌<◌}
use mathlib.Core.Path.{◌≡◌, refl, sym, ap, ◌∙◌}
use mathlib.Core.Bool.{Bool, true, false, cond, false≢true}
use native.Mathlib.Omega.{arith}
use borrow.Author.Tests.{eqb-true, eq-eqb, ne_eqb}
use lib.Dec.{eqb}
use lib.Arith.{lt_of_le-ne}
use lib.Pow.{pow_pos}
use Rattle.field.specs.Polynomial.{Degree, times, first_or_zero, reciprocal_of}
use Rattle.field.proofs.Laws.{one_times, zero_times, times_right_comm}

passes_at : (f : ℕ → Bool) (i r : ℕ) (t : Bool) → f i ≡ t → (f i ≡ false → f r ≡ true) → f (cond t i r) ≡ true
passes_at f i r true e h = e
passes_at f i r false e h = h e

-- a number that passes the test is not a number that fails it
apart : (f : ℕ → Bool) (i b : ℕ) → f i ≡ false → f b ≡ true → i ≡ b → ⊥
apart f i b z e q = false≢true (sym z ∙ ap f q ∙ e)

-- if one of the k numbers from i on passes the test, the number that `first_or_zero` finds passes it
first_passes : (f : ℕ → Bool) (i k b : ℕ) → i ≤ b → b < i + k → f b ≡ true → f (first_or_zero f i k) ≡ true
unfolding first_or_zero
first_passes f i zero b l h e = let z : ⊥ = omega arith in absurd z
first_passes f i (suc k) b l h e =
    passes_at f i (first_or_zero f (suc i) k) (f i) refl
    (λ z. first_passes f (suc i) k b (lt_of_le-ne l (apart f i b z e)) (omega arith) e)

choice_below : (t : Bool) (i r m : ℕ) → i < m → r < m → cond t i r < m
choice_below true i r m h k = h
choice_below false i r m h k = k

-- if m is above 0 and above all numbers tried, the number that `first_or_zero` finds is below m
first_below : (f : ℕ → Bool) (i k m : ℕ) → 0 < m → i + k ≤ m → first_or_zero f i k < m
unfolding first_or_zero
first_below f i zero m p h = p
first_below f i (suc k) m p h =
    choice_below (f i) i (first_or_zero f (suc i) k) m (omega arith) (first_below f (suc i) k m p (omega arith))

pub reciprocal_below : (n p a : ℕ) → reciprocal_of n p a < 2 ^ n
unfolding reciprocal_of
reciprocal_below n p a = first_below (λ b. eqb (times n p a b) 1) 0 (2 ^ n) (2 ^ n) (pow_pos n) (omega arith)

-- if the product of a and some element is 1, the product of a and its reciprocal is 1
pub times_reciprocal : (n p a b : ℕ) → b < 2 ^ n → times n p a b ≡ 1 → times n p a (reciprocal_of n p a) ≡ 1
unfolding reciprocal_of
times_reciprocal n p a b h e =
    let f : ℕ → Bool = λ c. eqb (times n p a c) 1 in
    eqb-true (times n p a (first_or_zero f 0 (2 ^ n))) 1
    (first_passes f 0 (2 ^ n) b (omega arith) (omega arith) (eq-eqb (times n p a b) 1 e))

-- an element whose product with a is 1 is the reciprocal of a
pub reciprocal_unique : {n p : ℕ} → Degree n p → (a b : ℕ) → b < 2 ^ n → times n p a b ≡ 1 → reciprocal_of n p a ≡ b
reciprocal_unique {n} {p} degree a b h e =
    let r = reciprocal_of n p a in
    sym (one_times degree r (reciprocal_below n p a))
    ∙ ap (λ (x : ℕ). times n p x r) (sym e)
    ∙ times_right_comm degree a b r
    ∙ ap (λ (x : ℕ). times n p x b) (times_reciprocal n p a b h e)
    ∙ one_times degree b h

-- no product with 0 is 1, so the reciprocal of 0 is 0
pub reciprocal_zero : {n p : ℕ} → Degree n p → reciprocal_of n p 0 ≡ 0
unfolding reciprocal_of first_or_zero
reciprocal_zero {n} {p} degree = none 0 (2 ^ n)
  where
    none : (i k : ℕ) → first_or_zero (λ b. eqb (times n p 0 b) 1) i k ≡ 0
    none i zero = refl
    none i (suc k) = rw (ne_eqb (times n p 0 i) 1 (λ e. omega (arith, zero_times degree i))) (none (suc i) k)
