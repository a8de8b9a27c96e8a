-- Laws of the field tables. The table of products of GF(32) holds each product at its place. A table of elements is the
-- table of reciprocals if entry a - 1 times a is 1 for each a. Looking a number up in the table of reciprocals gives
-- its reciprocal, for any number.
use Prim.Native.Nat.{ℕ, zero, suc, ◌+◌, ◌-◌, ◌*◌, ◌/◌, ◌%◌, ◌^◌, ◌<◌, ◌≤◌}
use mathlib.Core.Path.{◌≡◌, refl, sym, ap, ap₂, ◌∙◌, fun_ext}
use mathlib.Core.Bool.{Bool, true, ◌&&◌}
use mathlib.Core.List.{List, ◌∷◌}
use native.Mathlib.Nat.{mod-lt}
use native.Mathlib.Numerals.{add-one}
use native.Mathlib.Omega.{arith}
use borrow.Author.Tests.{ltb-true, eqb-true}
use lib.Dec.{ltb, eqb}
use lib.ListN.{length, get_or}
use lib.Pow.{pow_pos, pow_mono, suc_ones}
use Rattle.base.specs.Lists.{every, values}
use Rattle.base.proofs.ListLaws.{and_left, and_right, length_values, get_d_values, values_of, every_values}
use Rattle.field.specs.Polynomial.{Degree, times, first_or_zero, reciprocal_of}
use Rattle.field.specs.Fields.{bits, modulus}
use Rattle.field.specs.Gf32.{gf32, products}
use Rattle.field.specs.steps.Reciprocals.{reciprocals, looked_up, LentField}
use Rattle.field.specs.declared.Field.{Field}
use Rattle.field.specs.declared.Field.TheVariants.{Gf32}
use Rattle.field.proofs.Laws.{times_low, times_low_both}
use Rattle.field.proofs.ReciprocalLaws.{reciprocal_unique, reciprocal_zero}
use Rattle.field.proofs.Fields.{degree, narrow}

-- entry 32 a + b is a × b
pub product_at : (a b : ℕ) → a < 32 → b < 32 → get_or products (32 * a + b) 0 ≡ gf32.mul a b
product_at a b ha hb =
    let first : (32 * a + b) / 32 ≡ a = omega arith in
    let second : (32 * a + b) % 32 ≡ b = omega arith in
    get_d_values (λ k. gf32.mul (k / 32) (k % 32)) 1024 (32 * a + b) (omega arith) ∙ ap₂ gf32.mul first second

-- a product depends only on the five low bits of its factors
pub mul_low : (a b : ℕ) → gf32.mul a b ≡ gf32.mul (a % 32) (b % 32)
mul_low = times_low_both (degree Gf32)

-- is entry k an element whose product with k + 1 is 1?
abbrev one_at : ℕ → ℕ → List ℕ → ℕ → Bool
one_at n p l k = ltb (get_or l k 0) (2 ^ n) && eqb (times n p (suc k) (get_or l k 0)) 1

-- a table that passes the test `one_at` at every entry is the table of reciprocals
pub table_of : {n p : ℕ} → Degree n p → (l : List ℕ) → length l ≡ 2 ^ n - 1
    → every (one_at n p l) (values (λ k. k) (2 ^ n - 1)) ≡ true → l ≡ reciprocals n p
table_of {n} {p} d l size all =
    values_of (λ k. reciprocal_of n p (suc k)) (2 ^ n - 1) l size
    (λ k h.
    let e = every_values (one_at n p l) (λ k. k) (2 ^ n - 1) all k h in
    let b = get_or l k 0 in
    sym (reciprocal_unique d (suc k) b (ltb-true b (2 ^ n) (and_left (ltb b (2 ^ n)) (eqb (times n p (suc k) b) 1) e))
    (eqb-true (times n p (suc k) b) 1 (and_right (ltb b (2 ^ n)) (eqb (times n p (suc k) b) 1) e))))

-- a table of reciprocals has one entry for each element except zero
pub reciprocals_size : (n p : ℕ) (table : List ℕ) → table ≡ reciprocals n p → suc (length table) ≡ 2 ^ n
reciprocals_size n p table e =
    ap (λ (l : List ℕ). suc (length l)) e ∙ ap suc (length_values (λ k. reciprocal_of n p (suc k)) 0 (2 ^ n - 1))
    ∙ suc_ones n

module _ {n p : ℕ} (d : Degree n p) where
  -- the reciprocal depends only on the n low bits of its operand
  inv_low : (a : ℕ) → reciprocal_of n p (a % 2 ^ n) ≡ reciprocal_of n p a
  unfolding reciprocal_of
  inv_low a = ap (λ (f : ℕ → Bool). first_or_zero f 0 (2 ^ n))
      (fun_ext (λ b. ap (λ (x : ℕ). eqb x 1) (times_low d a b)))

  at_low : (a : ℕ) → a < 2 ^ n → get_or (0 ∷ reciprocals n p) a 0 ≡ reciprocal_of n p a
  at_low zero h = sym (reciprocal_zero d)
  at_low (suc k) h =
      let b : k < 2 ^ n - 1 = omega arith in
      get_d_values (λ k. reciprocal_of n p (suc k)) (2 ^ n - 1) k b

  -- looking a number up in the table gives its reciprocal
  pub inverse_at : (table : List ℕ) → table ≡ reciprocals n p → (a : ℕ) → looked_up table a ≡ reciprocal_of n p a
  inverse_at table e a =
      ap₂ (λ (l : List ℕ) (m : ℕ). get_or (0 ∷ l) (a % m) 0) e (reciprocals_size n p table e)
      ∙ at_low (a % 2 ^ n) (mod-lt a (pow_pos n)) ∙ inv_low a

-- how a number a is looked up, where r is its remainder modulo the table's length plus 1: 0 if r is 0, otherwise entry
-- r - 1
module _ (table : List ℕ) (a : ℕ) where
  pub none_before : a % (length table + 1) ≡ 0 → 0 ≡ looked_up table a
  none_before e = sym (ap (λ (k : ℕ). get_or (0 ∷ table) k 0)
      (sym (ap (λ (m : ℕ). a % m) (add-one (length table))) ∙ e))

  pub one_before : (a % (length table + 1) ≡ 0 → ⊥)
      → get_or table (a % (length table + 1) - 1) 0 ≡ looked_up table a
  one_before d = before (a % (length table + 1)) d
      ∙ ap (λ (m : ℕ). get_or (0 ∷ table) (a % m) 0) (add-one (length table))
    where
      before : (k : ℕ) → (k ≡ 0 → ⊥) → get_or table (k - 1) 0 ≡ get_or (0 ∷ table) k 0
      before zero z = absurd (z refl)
      before (suc k) z = let e : suc k - 1 ≡ k = omega arith in ap (λ (m : ℕ). get_or table m 0) e

-- each of the two fields, with its table of reciprocals, satisfies `LentField`
pub lent : (f : Field) (table : List ℕ) → table ≡ reciprocals (bits f) (modulus f)
    → LentField (bits f) (modulus f) table
lent f table e = record { degree = degree f; narrow = narrow f; reciprocals_are = e }

-- a lent table has at most 255 reciprocals
pub lent_short : {n p : ℕ} {table : List ℕ} → LentField n p table → length table < 256
lent_short {n} {p} {table} lent =
    let b : 2 ^ n ≤ 2 ^ 8 = pow_mono lent.narrow in
    let size = reciprocals_size n p table lent.reciprocals_are in
    omega arith

pub reciprocals_short : (f : Field) (table : List ℕ) → table ≡ reciprocals (bits f) (modulus f) → length table < 256
reciprocals_short f table e = lent_short (lent f table e)
