-- The difference of two numbers: how large it is, and that the difference of numbers up to 40,000 fits 32 bits.
use Prim.Native.Nat.{ℕ, zero, suc, ◌-◌, ◌≤◌, ◌<◌, ◌^◌}
use mathlib.Core.Path.{◌≡◌, ap₂, ◌∙◌}
use mathlib.Core.Bool.{Bool, true, false, cond}
use native.Mathlib.Omega.{arith}
use lib.Dec.{ltb}
use lib.IntN.{ℤ, pos, negsuc, ◌-ℤ◌, nat_abs}
use lib.Signed.{mag}
use mir.Syntax.{w32}
use mir.Val.{SFits, to_z, of_z}
use mir.Facts.{to_z_pos, to_z-of_z}

pub difference_within : (m n k : ℕ) → m ≤ k → n ≤ k → nat_abs (pos m -ℤ pos n) ≤ k
difference_within m zero k a b = omega arith
difference_within m (suc n) k a b = go (ltb m (suc n))
  where
    go : (t : Bool) → nat_abs (cond t (negsuc (suc n - suc m)) (pos (m - suc n))) ≤ k
    go true = omega arith
    go false = omega arith

small : (m n : ℕ) → m ≤ 40000 → n ≤ 40000 → SFits w32 (pos m -ℤ pos n)
small m n a b = record { sfits = go (pos m -ℤ pos n) (difference_within m n 40000 a b) }
  where
    go : (z : ℤ) → nat_abs z ≤ 40000 → mag z < 2 ^ 31
    go (pos k) h = omega arith
    go (negsuc k) h = omega arith

module _ (m n : ℕ) (a : m ≤ 40000) (b : n ≤ 40000) where
  read : to_z w32 m -ℤ to_z w32 n ≡ pos m -ℤ pos n
  read = ap₂ (λ (x y : ℤ). x -ℤ y) (to_z_pos w32 {n = m} (omega arith)) (to_z_pos w32 {n = n} (omega arith))

  pub difference_fits : SFits w32 (to_z w32 m -ℤ to_z w32 n)
  difference_fits = rw read (small m n a b)

  pub difference_is : to_z w32 (of_z w32 (to_z w32 m -ℤ to_z w32 n)) ≡ pos m -ℤ pos n
  difference_is = to_z-of_z difference_fits ∙ read
