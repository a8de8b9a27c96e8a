-- Rows with zeros after them, so that whole groups of eight numbers can be taken. A row followed by zeros is packed
-- into the row's bytes and zeros. Bytes followed by zero bytes hold the row and zeros.
use Prim.Native.Nat.{ℕ, zero, suc, ◌+◌, ◌*◌, ◌/◌, ◌^◌}
use mathlib.Core.Path.{◌≡◌, refl, sym, ap, ap₂, ◌∙◌}
use mathlib.Core.List.{List, [], ◌∷◌, ◌++◌}
use native.Mathlib.Nat.{pow-zero, pow-suc, suc-mul, mul_assoc, zero-mul, add-zero, mul-div_cancel, mul-div-mul_right}
use native.Mathlib.Omega.{arith}
use lib.Pow.{pow-add}
use lib.ListN.{length, take, replicate}
use lib.Seq.{take_at}
use Rattle.base.specs.Digits.{value, digits}
use Rattle.base.specs.Packing.{Below, row_bytes, filler_bits, packed_row, unpacked_row}
use Rattle.base.proofs.DigitLaws.{positive_pow, length_digits, value_append, digits_append}

-- n numbers of b bits have n * b bits
pow_bits : (b n : ℕ) → (2 ^ b) ^ n ≡ 2 ^ (n * b)
pow_bits b zero = rw (zero-mul b, pow-zero (2 ^ b))
pow_bits b (suc n) = rw (pow-suc (2 ^ b) n, pow_bits b n, suc-mul n b) (sym (pow-add 2 (n * b) b))

-- zeros: all numbers are below 1
pub replicate_zeros : (n : ℕ) → Below 1 (replicate n 0)
replicate_zeros zero k = omega arith
replicate_zeros (suc n) zero = omega arith
replicate_zeros (suc n) (suc k) = replicate_zeros n k

value_zeros : (b : ℕ) (zs : List ℕ) → Below 1 zs → value b zs ≡ 0
unfolding value
value_zeros b [] h = refl
value_zeros b (z ∷ zs) h =
    let e : z ≡ 0 = omega (arith, h 0) in
    ap₂ (λ (x y : ℕ). x * b ^ length zs + y) e (value_zeros b zs (λ k. h (suc k)))
    ∙ ap (λ (x : ℕ). x + 0) (zero-mul (b ^ length zs))

value_padded : (b : ℕ) (xs zs : List ℕ) → Below 1 zs → value b (xs ++ zs) ≡ value b xs * b ^ length zs
value_padded b xs zs h =
    value_append b xs zs
    ∙ ap (λ (v : ℕ). value b xs * b ^ length zs + v) (value_zeros b zs h)
    ∙ add-zero (value b xs * b ^ length zs)

-- n numbers of b bits; m numbers and e bytes more make whole groups
module _ (b n m e : ℕ) (fill : m * b ≡ filler_bits b n + e * 8) where
  more : (2 ^ b) ^ m ≡ 2 ^ filler_bits b n * 256 ^ e
  more =
      pow_bits b m
      ∙ ap (λ (k : ℕ). 2 ^ k) fill
      ∙ pow-add 2 (filler_bits b n) (e * 8)
      ∙ ap (λ (p : ℕ). 2 ^ filler_bits b n * p) (sym (pow_bits 8 e))

  pub padded_packed : (xs zs : List ℕ) → length xs ≡ n → length zs ≡ m → Below 1 zs
      → take (row_bytes b n) (digits 256 (row_bytes b n + e) (value (2 ^ b) (xs ++ zs))) ≡ packed_row b xs
  unfolding packed_row
  padded_packed xs zs lx lz h =
      let v = value (2 ^ b) xs in
      let u = 2 ^ filler_bits b n in
      ap (take (row_bytes b n)) (digits_append 256 (row_bytes b n) e (value (2 ^ b) (xs ++ zs)))
      ∙ take_at (digits 256 (row_bytes b n) (value (2 ^ b) (xs ++ zs) / 256 ^ e)) _ (row_bytes b n)
      (length_digits 256 (row_bytes b n) _)
      ∙ ap (λ (w : ℕ). digits 256 (row_bytes b n) (w / 256 ^ e))
      (value_padded (2 ^ b) xs zs h ∙ ap (λ (k : ℕ). v * (2 ^ b) ^ k) lz ∙ ap (λ (p : ℕ). v * p) more
      ∙ sym (mul_assoc v u (256 ^ e)))
      ∙ ap (digits 256 (row_bytes b n)) (mul-div_cancel (v * u) (positive_pow {b = 256} (omega arith) e))
      ∙ ap (λ (k : ℕ). digits 256 (row_bytes b k) (v * 2 ^ filler_bits b k)) (sym lx)

  pub padded_unpacked : (bytes zs : List ℕ) → length zs ≡ e → Below 1 zs
      → take n (digits (2 ^ b) (n + m) (value 256 (bytes ++ zs))) ≡ unpacked_row b n bytes
  unfolding unpacked_row
  padded_unpacked bytes zs lz h =
      let v = value 256 bytes in
      let u = 2 ^ filler_bits b n in
      ap (take n) (digits_append (2 ^ b) n m (value 256 (bytes ++ zs)))
      ∙ take_at (digits (2 ^ b) n (value 256 (bytes ++ zs) / (2 ^ b) ^ m)) _ n (length_digits (2 ^ b) n _)
      ∙ ap₂ (λ (w p : ℕ). digits (2 ^ b) n (w / p))
      (value_padded 256 bytes zs h ∙ ap (λ (k : ℕ). v * 256 ^ k) lz) more
      ∙ ap (digits (2 ^ b) n) (mul-div-mul_right v u (positive_pow {b = 256} (omega arith) e))
