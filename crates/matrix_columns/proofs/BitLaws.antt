-- A product by the bits of one factor: t × e is the sum of t × x^i over the bits i that are 1 in e. The law holds for
-- every degree from 1 on and every polynomial.
use Prim.Native.Nat.{ℕ, zero, suc, ◌+◌, ◌*◌, ◌/◌, ◌%◌, ◌^◌, ◌<◌}
use mathlib.Core.Path.{◌≡◌, refl, sym, ap, ap₂, ◌∙◌}
use native.Mathlib.Nat.{zero-lt-suc, mod-one, mod-lt, mod-mod, zero-mul, one-mul, pow-succ'}
use native.Mathlib.Omega.{arith}
use mathlib.Core.List.{List}
use lib.Arith.{mod-mul}
use lib.ListN.{get_or}
use lib.Pow.{pow_pos}
use lib.Bits.{bit_xor, xor_self, xor_comm, xor_shifted}
use Rattle.field.specs.Polynomial.{Degree, times, polynomials}
use Rattle.field.proofs.Xor.{by_digit}
use Rattle.field.proofs.Laws.{times_sum, times_low_both}
use Rattle.matrix_columns.specs.steps.Lanes.{lane, chosen, InLanes}
use Rattle.matrix_columns.specs.steps.Constants.{Multiples}

two_pos : 0 < 2
two_pos = zero-lt-suc 1

-- `chosen` depends only on the first n of the numbers c i
chosen_same : (c d : ℕ → ℕ) (n e : ℕ) → ((i : ℕ) → i < n → c i ≡ d i) → chosen c n e ≡ chosen d n e
unfolding chosen
chosen_same c d zero e h = refl
chosen_same c d (suc n) e h =
    ap₂ (λ (x y : ℕ). bit_xor x (e / 2 ^ n % 2 * y)) (chosen_same c d n e (λ i l. h i (omega arith)))
    (h n (omega arith))

module _ {n p : ℕ} (degree : Degree n p) (t : ℕ) where
  times_zero : times n p t 0 ≡ 0
  times_zero = times_sum degree t 0 0 ∙ xor_self (times n p t 0)

  times_bit : (b k : ℕ) → b < 2 → times n p t (b * 2 ^ k) ≡ b * times n p t (2 ^ k)
  times_bit b k h =
      by_digit (λ (x : ℕ). times n p t (x * 2 ^ k) ≡ x * times n p t (2 ^ k))
      (ap (times n p t) (zero-mul (2 ^ k)) ∙ times_zero ∙ sym (zero-mul (times n p t (2 ^ k))))
      (ap (times n p t) (one-mul (2 ^ k)) ∙ sym (one-mul (times n p t (2 ^ k)))) b h

  low_product : (k e : ℕ) → chosen (λ i. times n p t (2 ^ i)) k e ≡ times n p t (e % 2 ^ k)
  unfolding chosen
  low_product zero e = sym (ap (times n p t) (mod-one e) ∙ times_zero)
  low_product (suc k) e =
      let b = e / 2 ^ k % 2 in
      let l = e % 2 ^ k in
      ap₂ bit_xor (low_product k e) (sym (times_bit b k (mod-lt (e / 2 ^ k) two_pos)))
      ∙ xor_comm (times n p t l) (times n p t (b * 2 ^ k))
      ∙ sym (times_sum degree t (b * 2 ^ k) l)
      ∙ ap (times n p t)
      (xor_shifted b k l (mod-lt e (pow_pos k))
      ∙ sym (ap (λ (x : ℕ). e % x) (pow-succ' 2 k) ∙ mod-mul e two_pos (pow_pos k)))

  product_by_bits : (e : ℕ) → chosen (λ i. times n p t (2 ^ i)) n e ≡ times n p t e
  product_by_bits e =
      low_product n e ∙ times_low_both degree t (e % 2 ^ n) ∙ ap (times n p (t % 2 ^ n)) (mod-mod e (2 ^ n))
      ∙ sym (times_low_both degree t e)

-- a number times a column, by the number's constants: each lane is multiplied by the number
pub by_constants : {n p : ℕ} → Degree n p → (cs : List ℕ) (at t column r : ℕ) → Multiples (polynomials n p) n cs at t
    → InLanes r (λ j. chosen (λ i. get_or cs (at + i) 0) n (lane j column))
    → InLanes r (λ j. times n p t (lane j column))
by_constants {n} {p} degree cs at t column r multiples lanes j h =
    lanes j h ∙ chosen_same (λ i. get_or cs (at + i) 0) (λ i. times n p t (2 ^ i)) n (lane j column) multiples
    ∙ product_by_bits degree t (lane j column)
