-- Laws of the lanes of a number: the first lane, the lanes after it, and the lanes of a number that is put together
-- from its first lane and the rest. Sums go lane by lane. If a number is masked to the low bit of each lane and then
-- multiplied by a byte, each lane holds its low bit times the byte.
use Prim.Native.Nat.{ℕ, zero, suc, ◌+◌, ◌-◌, ◌*◌, ◌/◌, ◌%◌, ◌^◌, ◌≤◌, ◌<◌}
use mathlib.Core.Path.{◌≡◌, sym, ap, ap₂, ◌∙◌}
use native.Mathlib.Nat.{zero-lt-suc, mod-lt, mul-le-mul, mul_comm, div-div-eq-div-mul, pow-succ', add-mul, mul_assoc}
use native.Mathlib.Nat.{div-add-mod', le_of_suc-le-suc, div-one}
use native.Mathlib.Omega.{arith}
use lib.Arith.{digits_div, digits_mod}
use lib.Pow.{mod-mod-pow, field}
use lib.Bits.{bit_xor, bit_and, xor_shr, xor_mod, and_block, and_mask, and_le_r}
use Rattle.field.proofs.Xor.{by_digit}
use Rattle.matrix_columns.specs.steps.Lanes.{lane, ones}

byte_pos : 0 < 256
byte_pos = zero-lt-suc 255

two_pos : 0 < 2
two_pos = zero-lt-suc 1

-- ---- lanes one after another

pub lane_first : (x : ℕ) → lane 0 x ≡ x % 256
unfolding lane
lane_first x = ap (λ (y : ℕ). y % 256) (div-one x)

pub lane_next : (j x : ℕ) → lane (suc j) x ≡ lane j (x / 256)
unfolding lane
lane_next j x =
    ap (λ (y : ℕ). y % 256) (ap (λ (y : ℕ). x / y) (pow-succ' 256 j) ∙ sym (div-div-eq-div-mul x 256 (256 ^ j)))

-- a number put together from its first lane b and the rest x
module _ (x b : ℕ) (h : b < 256) where
  pub joined_first : lane 0 (x * 256 + b) ≡ b
  joined_first = lane_first (x * 256 + b) ∙ digits_mod x h

  pub joined_next : (j : ℕ) → lane (suc j) (x * 256 + b) ≡ lane j x
  joined_next j = lane_next j (x * 256 + b) ∙ ap (lane j) (digits_div x h)

pub lane_zero : (j : ℕ) → lane j 0 ≡ 0
lane_zero zero = lane_first 0
lane_zero (suc j) = lane_next j 0 ∙ lane_zero j

-- ---- sums

pub lane_xor : (j x y : ℕ) → lane j (bit_xor x y) ≡ bit_xor (lane j x) (lane j y)
lane_xor zero x y = lane_first (bit_xor x y) ∙ xor_mod x y 8 ∙ ap₂ bit_xor (sym (lane_first x)) (sym (lane_first y))
lane_xor (suc j) x y =
    lane_next j (bit_xor x y) ∙ ap (lane j) (xor_shr x y 8) ∙ lane_xor j (x / 256) (y / 256)
    ∙ ap₂ bit_xor (sym (lane_next j x)) (sym (lane_next j y))

-- ---- the low bit of each lane, times a byte

-- the eight low bits of a number are the bits of its first lane
low_bits : (y i : ℕ) → i < 8 → y % 256 / 2 ^ i % 2 ≡ y / 2 ^ i % 2
low_bits y i h =
    let e : 8 ≡ 7 - i + 1 + i = omega arith in
    ap (λ (k : ℕ). y % 2 ^ k / 2 ^ i % 2) e ∙ ap (λ (z : ℕ). z % 2) (field y (7 - i + 1) i)
    ∙ mod-mod-pow (y / 2 ^ i) (7 - i) 1

-- masking leaves a number's low bit in the first lane, and masks the rest
mask_join : (n y : ℕ) → bit_and y (ones (suc n)) ≡ bit_and (y / 256) (ones n) * 256 + y % 2
unfolding ones
mask_join n y =
    ap (λ (z : ℕ). bit_and z (ones n * 256 + 1)) (sym (div-add-mod' y 256))
    ∙ and_block 8 (y / 256) (ones n) (y % 256) 1 (mod-lt y byte_pos) (omega arith)
    ∙ ap (λ (z : ℕ). bit_and (y / 256) (ones n) * 256 + z) (and_mask (y % 256) 1 ∙ mod-mod-pow y 7 1)

module _ (c : ℕ) (h : c < 256) where
  bit_below : (b : ℕ) → b < 2 → b * c < 256
  bit_below b l = by_digit (λ (x : ℕ). x * c < 256) (omega arith) (omega arith) b l

  mask_times : (n y : ℕ) → bit_and y (ones (suc n)) * c ≡ bit_and (y / 256) (ones n) * c * 256 + y % 2 * c
  mask_times n y =
      let a = bit_and (y / 256) (ones n) in
      ap (λ (z : ℕ). z * c) (mask_join n y) ∙ add-mul (a * 256) (y % 2) c
      ∙ ap (λ (z : ℕ). z + y % 2 * c)
      (mul_assoc a 256 c ∙ ap (λ (z : ℕ). a * z) (mul_comm 256 c) ∙ sym (mul_assoc a c 256))

  masked_bit : (j n y : ℕ) → j < n → lane j (bit_and y (ones n) * c) ≡ y / 256 ^ j % 2 * c
  masked_bit j zero y l = absurd (omega arith)
  masked_bit zero (suc n) y l =
      ap (lane 0) (mask_times n y)
      ∙ joined_first (bit_and (y / 256) (ones n) * c) (y % 2 * c) (bit_below (y % 2) (mod-lt y two_pos))
      ∙ ap (λ (z : ℕ). z % 2 * c) (sym (div-one y))
  masked_bit (suc j) (suc n) y l =
      ap (lane (suc j)) (mask_times n y)
      ∙ joined_next (bit_and (y / 256) (ones n) * c) (y % 2 * c) (bit_below (y % 2) (mod-lt y two_pos)) j
      ∙ masked_bit j n (y / 256) (le_of_suc-le-suc l)
      ∙ ap (λ (z : ℕ). z % 2 * c) (div-div-eq-div-mul y 256 (256 ^ j) ∙ ap (λ (z : ℕ). y / z) (sym (pow-succ' 256 j)))

  -- a column is shifted right by i bits, masked and multiplied by a byte: lane j then holds bit i of the column's lane
  -- j, times the byte
  pub masked : (i j x : ℕ) → i < 8 → j < 8 → lane j (bit_and (x / 2 ^ i) (ones 8) * c) ≡ lane j x / 2 ^ i % 2 * c
  unfolding lane
  masked i j x hi hj =
      masked_bit j 8 (x / 2 ^ i) hj
      ∙ ap (λ (z : ℕ). z * c)
      (ap (λ (z : ℕ). z % 2)
      (div-div-eq-div-mul x (2 ^ i) (256 ^ j) ∙ ap (λ (z : ℕ). x / z) (mul_comm (2 ^ i) (256 ^ j))
      ∙ sym (div-div-eq-div-mul x (256 ^ j) (2 ^ i)))
      ∙ sym (low_bits (x / 256 ^ j) i hi))

  -- a masked number times a byte fits in 64 bits
  pub masked_fits : (y : ℕ) → bit_and y (ones 8) * c < 2 ^ 64
  unfolding ones
  masked_fits y =
      let byte : c ≤ 255 = omega arith in
      let l : bit_and y (ones 8) * c ≤ ones 8 * 255 = mul-le-mul (and_le_r y (ones 8)) byte in
      omega arith
