-- An array's `map` with a closure that computes a function gives that function's values, place by place.
use Prim.Native.Nat.{ℕ, zero, suc, ◌+◌, ◌≤◌, ◌<◌}
use mathlib.Core.Path.{◌≡◌, sym, ap, subst, ◌∙◌}
use mathlib.Core.List.{List}
use native.Mathlib.Decide.{ℕ_discrete}
use native.Mathlib.Omega.{arith}
use denote.Param.Members.{Mut}
use lib.ListN.{get_or}
use Rattle.std.specs.Array.{MapsFrom, IsMapOf}
use Rattle.std.specs.Fn.{Called}
use Rattle.base.specs.Lists.{values}
use Rattle.base.proofs.ListLaws.{values_of}

module _ {F : Type 0} {g : Mut F (ℕ × Unit {0}) ℕ} (h : ℕ → ℕ) {f : F}
    (pure : (x b : ℕ) (q : F) → Called g f (x, tt) b q → (q ≡ f) × (b ≡ h x)) (xs ys : List ℕ) where
  each : (i n k : ℕ) → MapsFrom g f xs ys i n → i ≤ k → k < i + n → get_or ys k 0 ≡ h (get_or xs k 0)
  each i zero k m b d = absurd (omega arith)
  each i (suc n) k (q, x, y, there, made, called, rest) b d =
      at (ℕ_discrete k i)
      (λ o. each (i + 1) n k (subst (λ p. MapsFrom g p xs ys (i + 1) n) (pure x y q called).0 rest) (omega arith)
      (omega arith))
    where
      at : Dec (k ≡ i) → ((k ≡ i → ⊥) → get_or ys k 0 ≡ h (get_or xs k 0)) → get_or ys k 0 ≡ h (get_or xs k 0)
      at (yes e) later = rw e (made.1 0 ∙ (pure x y q called).1 ∙ ap h (sym (there.1 0)))
      at (no o) later = later o

  pub mapped : (n : ℕ) → IsMapOf g f xs ys n → ys ≡ values (λ k. h (get_or xs k 0)) n
  mapped n m = values_of (λ k. h (get_or xs k 0)) n ys m.long (λ k b. each 0 n k m.each (omega arith) (omega arith))
