-- The polynomials over two elements, reduced by a polynomial of degree n, are a binary field if each element except 0
-- has a reciprocal. All other laws hold for every degree from 1 on. antt computes that the reciprocals exist, by one
-- product for each element, for GF(32) and GF(256), and for two fields that the library does not use, of four and of
-- sixteen elements.
use Prim.Native.Nat.{ℕ, zero, suc, ◌*◌, ◌/◌, ◌%◌, ◌^◌, ◌≤◌, ◌<◌}
use mathlib.Core.Path.{◌≡◌, refl, sym, ap, ◌∙◌}
use mathlib.Core.Bool.{true, false}
use mathlib.Core.List.{List}
use native.Mathlib.Nat.{not-suc-le-zero, le_of_suc-le-suc, mod-lt}
use native.Mathlib.Omega.{arith}
use lib.Dec.{eqb, ltb, lit<, lit≤}
use lib.ListN.{get_or}
use lib.Pow.{pow_pos, pow_mono, pow-lt}
use lib.Bits.{bit_xor, xor_comm, xor_self, xor_lt}
use Rattle.base.specs.Lists.{values, values_from}
use Rattle.base.proofs.ListLaws.{get_d_values}
use Rattle.field.specs.Binary.{BinaryField}
use Rattle.field.specs.Polynomial.{Degree, times_x, horner, times, polynomials}
use Rattle.field.specs.Fields.{bits, modulus, operations, field_of, is_large}
use Rattle.field.specs.declared.Field.{Field}
use Rattle.field.specs.declared.Field.TheVariants.{Gf32, Gf256}
use Rattle.field.proofs.Xor.{xor_assoc}
use Rattle.field.proofs.Laws.{times_below, times_comm, times_assoc, times_sum, one_times}
use Rattle.field.proofs.ReciprocalLaws.{reciprocal_below, times_reciprocal}

-- a number has a reciprocal: an element whose product with it is 1
pub record HasReciprocal (n p a : ℕ) : Type 0 where
  pub element : ℕ
  pub below : element < 2 ^ n
  pub product_one : times n p a element ≡ 1

-- each element except 0 has a reciprocal
abbrev pub AllReciprocals : ℕ → ℕ → Type 0
AllReciprocals n p = (a : ℕ) → 0 < a → a < 2 ^ n → HasReciprocal n p a

pub polynomials_field : {n p : ℕ} → Degree n p → AllReciprocals n p → BinaryField (polynomials n p)
polynomials_field {n} {p} degree all =
    record {
      zero_below = pow_pos n;
      one_below = pow-lt degree.positive;
      add_below = λ ha hb. xor_lt n _ _ ha hb;
      mul_below = times_below degree;
      inv_below = reciprocal_below n p;
      add_comm = xor_comm;
      add_assoc = xor_assoc;
      zero_add = λ a. refl;
      add_self = xor_self;
      mul_comm = times_comm degree;
      mul_assoc = times_assoc degree;
      mul_add = times_sum degree;
      one_mul = λ {a} h. one_times degree a h;
      mul_inv = λ {a} pos below.
          (let r = all a pos below in times_reciprocal n p a r.element r.below r.product_one);
    }

-- ---- how to show that each element has a reciprocal

-- for each of 1 to m, its product with the number that g names for it
abbrev named_products : ℕ → ℕ → ℕ → (ℕ → ℕ) → List ℕ
named_products n p m g = values (λ k. times n p (suc k) (g (suc k) % 2 ^ n)) m

-- if 1 to m are the elements except 0, and all these products are 1, each element except 0 has a reciprocal
pub all_one : (n p m : ℕ) (g : ℕ → ℕ) → 2 ^ n ≡ suc m → named_products n p m g ≡ values (λ k. 1) m → AllReciprocals n p
all_one n p m g e all zero pos below = absurd (not-suc-le-zero pos)
all_one n p m g e all (suc k) pos below =
    let h : k < m = le_of_suc-le-suc (rw (sym e) below) in
    record {
      element = g (suc k) % 2 ^ n;
      below = mod-lt (g (suc k)) (pow_pos n);
      product_one =
          sym (get_d_values (λ k. times n p (suc k) (g (suc k) % 2 ^ n)) m k h)
          ∙ ap (λ l. get_or l k 0) all
          ∙ get_d_values (λ k. 1) m k h;
    }

-- x divides a, or a + p: a / x, reduced by p
halved : ℕ → ℕ → ℕ
halved p a = elim (eqb (a % 2) 0) [ true ↦ a / 2 | false ↦ bit_xor a p / 2 ]

-- Euclid's algorithm in k steps: u is the product of an element and g, v that of the element and h. If u becomes 1, g
-- is the reciprocal. No law is shown of this: each number that it finds is tested by its product
pub euclid : ℕ → ℕ → ℕ → ℕ → ℕ → ℕ → ℕ
euclid p zero u v g h = 0
euclid p (suc k) u v g h =
    elim (eqb u 1) [
      | true ↦ g
      | false ↦ elim (eqb (u % 2) 0) [
        | true ↦ euclid p k (u / 2) v (halved p g) h
        | false ↦ elim (ltb u v) [ true ↦ euclid p k v u h g | false ↦ euclid p k (bit_xor u v) v (bit_xor g h) h ]
      ]
    ]

-- each element except 0 has a reciprocal if the numbers that Euclid's algorithm finds are reciprocals
pub by_euclid : (n p m : ℕ) → 2 ^ n ≡ suc m
    → named_products n p m (λ a. euclid p (8 * n) a p 1 0) ≡ values (λ k. 1) m → AllReciprocals n p
by_euclid n p m = all_one n p m (λ a. euclid p (8 * n) a p 1 0)

-- ---- the two fields of the library

-- the polynomial of each field has the degree that the bits of an element say
pub degree : (f : Field) → Degree (bits f) (modulus f)
degree Gf32 = record { positive = lit< tt; from = lit≤ tt; to = lit< tt }
degree Gf256 = record { positive = lit< tt; from = lit≤ tt; to = lit< tt }

-- an element has at most eight bits
pub narrow : (f : Field) → bits f ≤ 8
narrow Gf32 = lit≤ tt
narrow Gf256 = lit≤ tt

pub byte : (f : Field) (a : ℕ) → a < 2 ^ bits f → a < 256
byte f a h = let b : 2 ^ bits f ≤ 2 ^ 8 = pow_mono (narrow f) in omega arith

gf32_field : BinaryField (operations Gf32)
unfolding values_from times_x horner times halved euclid
gf32_field = polynomials_field (degree Gf32) (by_euclid 5 (modulus Gf32) 31 refl refl)

gf256_field : BinaryField (operations Gf256)
unfolding values_from times_x horner times halved euclid
gf256_field = polynomials_field (degree Gf256) (by_euclid 8 (modulus Gf256) 255 refl refl)

-- the name of a field, as one of two, gives back the field
pub named : (f : Field) → field_of (is_large f) ≡ f
named Gf32 = refl
named Gf256 = refl

-- both fields of the library are binary fields
pub binary : (f : Field) → BinaryField (operations f)
binary Gf32 = gf32_field
binary Gf256 = gf256_field

-- ---- two fields that the library does not use

-- the field of four elements: x^2 + x + 1
pub gf4_field : BinaryField (polynomials 2 0b111)
unfolding values_from times_x horner times halved euclid
gf4_field =
    polynomials_field (record { positive = lit< tt; from = lit≤ tt; to = lit< tt }) (by_euclid 2 0b111 3 refl refl)

-- a field of sixteen elements: x^4 + x^3 + x^2 + x + 1. There x^5 = 1, so x is not a generator
pub gf16_field : BinaryField (polynomials 4 0b11111)
unfolding values_from times_x horner times halved euclid
gf16_field =
    polynomials_field (record { positive = lit< tt; from = lit≤ tt; to = lit< tt }) (by_euclid 4 0b11111 15 refl refl)
