-- Laws of the first of the places 0 to n - 1 that passes a test.
use Prim.Native.Nat.{ℕ, zero, suc, ◌+◌, ◌≤◌, ◌<◌}
use mathlib.Core.Path.{◌≡◌, refl}
use mathlib.Core.Bool.{Bool, true, false, cond}
use mathlib.Core.Logic.{◌⊎◌, inl, inr}
use native.Mathlib.Decide.{dec_le, dec_lt}
use native.Mathlib.Omega.{arith}
use Rattle.base.specs.Lists.{first_from}
use Rattle.base.proofs.ListLaws.{true_false}
use Rattle.base.proofs.SearchLaws.{first_passes, first_least}

module _ (f : ℕ → Bool) where
  pub found_passes : (n : ℕ) → first_from f 0 n < n → f (first_from f 0 n) ≡ true
  found_passes n h = go (first_passes f 0 n)
    where
      go : (f (first_from f 0 n) ≡ true) ⊎ (first_from f 0 n ≡ 0 + n) → f (first_from f 0 n) ≡ true
      go (inl e) = e
      go (inr e) = absurd (omega arith)

  pub before_found : (n j : ℕ) → j < first_from f 0 n → f j ≡ false
  before_found n j h = first_least f 0 n j (omega arith) h

  -- a place that passes is not before the place found
  pub found_before : (n j : ℕ) → f j ≡ true → first_from f 0 n ≤ j
  found_before n j e = go (dec_le (first_from f 0 n) j)
    where
      go : Dec (first_from f 0 n ≤ j) → first_from f 0 n ≤ j
      go (yes h) = h
      go (no h) = absurd (true_false (f j) e (before_found n j (omega arith)))

  -- the place that passes while none before it does
  pub found_at : (n k : ℕ) → k < n → f k ≡ true → ((j : ℕ) → j < k → f j ≡ false) → first_from f 0 n ≡ k
  found_at n k h e none = go (dec_lt (first_from f 0 n) k) (found_before n k e)
    where
      go : Dec (first_from f 0 n < k) → first_from f 0 n ≤ k → first_from f 0 n ≡ k
      go (yes l) m = absurd (true_false _ (found_passes n (omega arith)) (none (first_from f 0 n) l))
      go (no l) m = omega arith

-- tests that agree on the n places find the same place
pub found_alike : (f g : ℕ → Bool) (k n : ℕ) → ((j : ℕ) → k ≤ j → j < k + n → f j ≡ g j)
    → first_from f k n ≡ first_from g k n
unfolding first_from
found_alike f g k zero h = refl
found_alike f g k (suc n) h =
    let later = found_alike f g (suc k) n (λ j a b. h j (omega arith) (omega arith)) in
    λ i. cond (h k (omega arith) (omega arith) i) k (later i)
