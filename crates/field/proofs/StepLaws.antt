-- Products by steps: x times a is one exclusive or. One iteration of the loop takes one bit of a factor, the lowest
-- first.
use Prim.Native.Nat.{ℕ, suc, ◌*◌, ◌/◌, ◌%◌, ◌^◌, ◌<◌}
use mathlib.Core.Path.{◌≡◌, sym, ap, ◌∙◌}
use native.Mathlib.Nat.{mod-lt, one-mul, zero-mul}
use native.Mathlib.Omega.{arith}
use lib.Bits.{bit_xor, xor_comm}
use Rattle.field.specs.Polynomial.{Degree, times_x, horner}
use Rattle.field.proofs.Xor.{by_digit, xor_assoc}
use Rattle.field.proofs.Laws.{pick, top_below, step_is, horner_first}

-- `pick` by a digit is multiplication by the digit
digit_times : (t v : ℕ) → t < 2 → pick t v ≡ t * v
digit_times t v h = by_digit (λ (x : ℕ). pick x v ≡ x * v) (sym (zero-mul v)) (sym (one-mul v)) t h

pub digit_below : (t v m : ℕ) → t < 2 → v < m → t * v < m
digit_below t v m h b =
    by_digit (λ (x : ℕ). x * v < m) (rw (zero-mul v) (omega arith)) (rw (one-mul v) b) t h

module _ {n p : ℕ} (degree : Degree n p) where
  pub step_by : (a : ℕ) → a < 2 ^ n → times_x n p a ≡ bit_xor (a * 2) (a * 2 / 2 ^ n * p)
  step_by a h =
      step_is degree a h ∙ ap (bit_xor (a * 2)) (digit_times (a * 2 / 2 ^ n) p (top_below degree (a * 2) (omega arith)))

  -- one iteration keeps the sum of the total and the product that is left to add
  pub turn : (total t k b : ℕ) → t < 2 ^ n
      → bit_xor (bit_xor total (b % 2 * t)) (horner n p (times_x n p t) k (b / 2))
      ≡ bit_xor total (horner n p t (suc k) b)
  turn total t k b h =
      let u = b % 2 * t in
      let v = horner n p (times_x n p t) k (b / 2) in
      xor_assoc total u v
      ∙ ap (bit_xor total)
      (xor_comm u v
      ∙ sym (horner_first degree t k b h ∙ ap (bit_xor v) (digit_times (b % 2) t (mod-lt b (omega arith)))))
