-- The first number that passes a test: it is the first, and it passes unless none does.
use Prim.Native.Nat.{ℕ, zero, suc, ◌+◌, ◌≤◌, ◌<◌}
use native.Mathlib.Decide.{dec_le}
use native.Mathlib.Omega.{arith}
use mathlib.Core.Path.{◌≡◌, refl, ap, ◌∙◌}
use mathlib.Core.Bool.{Bool, true, false, cond}
use mathlib.Core.Logic.{◌⊎◌, inl, inr}
use Rattle.base.specs.Lists.{first_from}

module _ (f : ℕ → Bool) where
  pub first_from_lem : (k n : ℕ) → k ≤ first_from f k n
  unfolding first_from
  first_from_lem k zero = omega arith
  first_from_lem k (suc n) = go (f k) (first_from_lem (suc k) n)
    where
      go : (b : Bool) → suc k ≤ first_from f (suc k) n → k ≤ cond b k (first_from f (suc k) n)
      go true h = omega arith
      go false h = omega arith

  -- the number found passes, or none of the n numbers does
  pub first_passes : (k n : ℕ) → (f (first_from f k n) ≡ true) ⊎ (first_from f k n ≡ k + n)
  unfolding first_from
  first_passes k zero = inr (omega arith)
  first_passes k (suc n) = go (f k) refl (first_passes (suc k) n)
    where
      go : (b : Bool) → f k ≡ b → (f (first_from f (suc k) n) ≡ true) ⊎ (first_from f (suc k) n ≡ suc k + n)
          → (f (cond b k (first_from f (suc k) n)) ≡ true) ⊎ (cond b k (first_from f (suc k) n) ≡ k + suc n)
      go true e later = inl e
      go false e (inl d) = inl d
      go false e (inr d) = inr (omega arith)

  -- no number before it passes
  pub first_least : (k n j : ℕ) → k ≤ j → j < first_from f k n → f j ≡ false
  unfolding first_from
  first_least k zero j h l = absurd (omega arith)
  first_least k (suc n) j h l = go (f k) refl l (dec_le (suc k) j) (first_least (suc k) n j)
    where
      go : (b : Bool) → f k ≡ b → j < cond b k (first_from f (suc k) n) → Dec (suc k ≤ j)
          → (suc k ≤ j → j < first_from f (suc k) n → f j ≡ false) → f j ≡ false
      go true e m d later = absurd (omega arith)
      go false e m (yes d) later = later d m
      go false e m (no d) later = let s : j ≡ k = omega arith in ap f s ∙ e
