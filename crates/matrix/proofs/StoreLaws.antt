-- A store into a matrix changes its own entry and no other.
use Prim.Native.Nat.{ℕ, ◌<◌}
use mathlib.Core.Path.{◌≡◌}
use mathlib.Core.List.{List}
use native.Mathlib.Omega.{arith}
use lib.ListN.{length, set}
use lib.Seq.{get_or-set_same, get_or-set_other}
use Rattle.matrix.specs.Layout.{place, entry}
use Rattle.matrix.proofs.LayoutLaws.{place_below, place_row, place_column}

module _ (m : List ℕ) (r c v : ℕ) (hr : r < 8) (hc : c < 8) where
  pub store_same : length m ≡ 64 → entry (set m (place r c) v) r c ≡ v
  unfolding entry
  store_same l = get_or-set_same m (place r c) v 0 (omega (arith, place_below r c hr hc))

  pub store_other : (i j : ℕ) → i < 8 → j < 8 → (i ≡ r → j ≡ c → ⊥) → entry (set m (place r c) v) i j ≡ entry m i j
  unfolding entry
  store_other i j hi hj h =
      get_or-set_other m (place r c) (place i j) v 0
      (λ e. h (place_row r c i j hr hc hi hj e) (place_column r c i j hr hc hi hj e))
