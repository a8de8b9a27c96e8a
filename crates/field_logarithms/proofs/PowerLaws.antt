-- A table of logarithms and powers that passes a test at every entry gives every product. Let h be the number of
-- elements except zero. The test asks the following. The first power is 1, and each next one is x times the one before.
-- The powers from place 2 h on are 0. The logarithm of a number depends only on its low bits. It is 2 h if they are
-- zero, otherwise it is the place, below h, of the power that equals them. Exponents add when powers are multiplied, so
-- all products follow from the table's 257 + 4 h entries.
use Prim.Native.Nat.{ℕ, zero, suc, ◌+◌, ◌-◌, ◌*◌, ◌%◌, ◌^◌, ◌<◌, ◌≤◌}
use mathlib.Core.Path.{◌≡◌, sym, ap, ap₂, subst, ◌∙◌}
use mathlib.Core.Bool.{Bool, true, cond, ◌&&◌}
use mathlib.Core.List.{List}
use native.Mathlib.Nat.{zero-add, suc-add}
use native.Mathlib.Omega.{arith}
use native.Mathlib.Decide.{dec_lt, ℕ_discrete}
use borrow.Author.Tests.{ltb-true, eqb-true, eq-eqb, ne_eqb}
use lib.Dec.{ltb, eqb}
use lib.ListN.{length, get_or, set, get_or-eq_default}
use lib.Seq.{get_or-set_same, get_or-set_other}
use lib.Pow.{pow-lt}
use Rattle.base.specs.Lists.{every, values}
use Rattle.base.proofs.ListLaws.{and_left, and_right, every_values}
use Rattle.field.specs.Polynomial.{Degree, times_x, times}
use Rattle.field.specs.Fields.{bits, modulus, operations}
use Rattle.field.specs.declared.Field.{Field}
use Rattle.field.proofs.Laws.{step_below, one_times, zero_times, times_step, times_comm, times_low_both}
use Rattle.field.proofs.Fields.{degree, byte}
use Rattle.field_logarithms.specs.steps.Logarithms.{ProductsBy, LogarithmOf, LogarithmsOf}

-- ---- powers of x

power : ℕ → ℕ → ℕ → ℕ
power n p zero = 1
power n p (suc k) = times_x n p (power n p k)

module _ {n p : ℕ} (d : Degree n p) where
  power_below : (k : ℕ) → power n p k < 2 ^ n
  unfolding power
  power_below zero = pow-lt d.positive
  power_below (suc k) = step_below d (power n p k) (power_below k)

  power_add : (i j : ℕ) → times n p (power n p i) (power n p j) ≡ power n p (i + j)
  unfolding power
  power_add zero j = one_times d (power n p j) (power_below j) ∙ ap (power n p) (sym (zero-add j))
  power_add (suc i) j =
      times_step d (power n p i) (power n p j) (power_below i) ∙ ap (times_x n p) (power_add i j)
      ∙ ap (power n p) (sym (suc-add i j))

-- ---- the test

-- the power at place k of the table
abbrev power_at : List ℕ → ℕ → ℕ
power_at table k = get_or table (256 + k) 0

abbrev next_right : ℕ → ℕ → List ℕ → ℕ → Bool
next_right n p table k = eqb (power_at table (suc k)) (times_x n p (power_at table k))

abbrev zero_right : ℕ → List ℕ → ℕ → Bool
zero_right h table k = eqb (power_at table (2 * h + k)) 0

abbrev log_right : ℕ → ℕ → List ℕ → ℕ → Bool
log_right n h table a =
    cond (eqb (a % 2 ^ n) 0) (eqb (get_or table a 0) (2 * h))
    (ltb (get_or table a 0) h && eqb (power_at table (get_or table a 0)) (a % 2 ^ n))

abbrev Tested : ℕ → ℕ → ℕ → List ℕ → Type 0
Tested n p h table =
    (power_at table 0 ≡ 1)
    × (every (next_right n p table) (values (λ k. k) (2 * h - 1)) ≡ true)
    × (every (zero_right h table) (values (λ k. k) (2 * h + 1)) ≡ true)
    × (every (log_right n h table) (values (λ k. k) 256) ≡ true)
    × (length table ≡ 257 + 4 * h)

module _ (f : Field) (h : ℕ) (table : List ℕ) (right : Tested (bits f) (modulus f) h table) where
  abbrev n : ℕ
  n = bits f

  abbrev p : ℕ
  p = modulus f

  at_power : (k : ℕ) → k < 2 * h → power_at table k ≡ power n p k
  unfolding power
  at_power zero l = right.0
  at_power (suc k) l =
      eqb-true (power_at table (suc k)) (times_x n p (power_at table k))
      (every_values (next_right n p table) (λ k. k) (2 * h - 1) right.1 k (omega arith))
      ∙ ap (times_x n p) (at_power k (omega arith))

  at_zero : (k : ℕ) → 2 * h ≤ k → k ≤ 4 * h → power_at table k ≡ 0
  at_zero k l m =
      let e : 2 * h + (k - 2 * h) ≡ k = omega arith in
      ap (power_at table) (sym e)
      ∙ eqb-true (power_at table (2 * h + (k - 2 * h))) 0
      (every_values (zero_right h table) (λ k. k) (2 * h + 1) right.2 (k - 2 * h) (omega arith))

  -- the logarithm of a number: 2 h if the low bits are zero, otherwise the place of the power that equals the low bits
  data Log (a : ℕ) : Type 0 where
    of_zero : a % 2 ^ n ≡ 0 → get_or table a 0 ≡ 2 * h → Log a
    of_power : get_or table a 0 < h → power n p (get_or table a 0) ≡ a % 2 ^ n → Log a

  log : (a : ℕ) → a < 256 → Log a
  log a b = go (ℕ_discrete (a % 2 ^ n) 0) (every_values (log_right n h table) (λ k. k) 256 right.3 a b)
    where
      go : Dec (a % 2 ^ n ≡ 0) → log_right n h table a ≡ true → Log a
      go (yes z) e = of_zero z (eqb-true (get_or table a 0) (2 * h) (rw (eq-eqb (a % 2 ^ n) 0 z) at e))
      go (no z) e =
          let t : ltb (get_or table a 0) h && eqb (power_at table (get_or table a 0)) (a % 2 ^ n) ≡ true =
          rw (ne_eqb (a % 2 ^ n) 0 z) at e in
          let l =
          ltb-true (get_or table a 0) h
          (and_left (ltb (get_or table a 0) h) (eqb (power_at table (get_or table a 0)) (a % 2 ^ n)) t) in
          of_power l
          (sym (at_power (get_or table a 0) (omega arith))
          ∙ eqb-true (power_at table (get_or table a 0)) (a % 2 ^ n)
          (and_right (ltb (get_or table a 0) h) (eqb (power_at table (get_or table a 0)) (a % 2 ^ n)) t))

  log_near : (a : ℕ) → Log a → get_or table a 0 ≤ 2 * h
  log_near a (of_zero z e) = omega arith
  log_near a (of_power l e) = omega arith

  -- every power in the table is a byte, and past the table's end 0 is read
  at_byte : (k : ℕ) → power_at table k < 256
  at_byte k = go (dec_lt k (2 * h)) (dec_lt k (4 * h + 1))
    where
      go : Dec (k < 2 * h) → Dec (k < 4 * h + 1) → power_at table k < 256
      go (yes l) _ = rw (at_power k l) (byte f (power n p k) (power_below (degree f) k))
      go (no l) (yes m) = omega (arith, at_zero k (omega arith) (omega arith))
      go (no l) (no m) = omega (arith, get_or-eq_default {A = ℕ} table 0 {n = 256 + k} (omega (arith, right.4)))

  low : (a b : ℕ) → times n p a b ≡ times n p (a % 2 ^ n) (b % 2 ^ n)
  low = times_low_both (degree f)

  product_by : (a b : ℕ) → Log a → Log b → power_at table (get_or table a 0 + get_or table b 0) ≡ times n p a b
  product_by a b (of_zero z e) y =
      at_zero (get_or table a 0 + get_or table b 0) (omega arith) (omega (arith, log_near b y))
      ∙ sym (low a b ∙ ap (λ (x : ℕ). times n p x (b % 2 ^ n)) z ∙ zero_times (degree f) (b % 2 ^ n))
  product_by a b (of_power l g) (of_zero z e) =
      at_zero (get_or table a 0 + get_or table b 0) (omega arith) (omega arith)
      ∙ sym (low a b ∙ ap (times n p (a % 2 ^ n)) z ∙ times_comm (degree f) (a % 2 ^ n) 0
      ∙ zero_times (degree f) (a % 2 ^ n))
  product_by a b (of_power l g) (of_power m k) =
      at_power (get_or table a 0 + get_or table b 0) (omega arith)
      ∙ sym (low a b ∙ sym (ap₂ (times n p) g k) ∙ power_add (degree f) (get_or table a 0) (get_or table b 0))

  pub products_by : ProductsBy f table
  products_by =
      record {
        near = λ a l. omega (arith, log_near a (log a l), right.4);
        byte = λ k l. let e : 256 + (k - 256) ≡ k = omega arith in rw (sym e) (at_byte (k - 256));
        product = λ a b ha hb. product_by a b (log a ha) (log b hb);
      }

-- ---- the product that a table gives for two logarithms

module _ {f : Field} {table : List ℕ} (by : ProductsBy f table) {a b i j : ℕ} (x : LogarithmOf table a i)
    (y : LogarithmOf table b j) where
  pub sum_within : 256 + (i + j) < length table
  sum_within = omega (arith, x.entry, y.entry, by.near a x.byte, by.near b y.byte)

  pub sum_product : get_or table (256 + (i + j)) 0 ≡ (operations f).mul a b
  sum_product =
      ap₂ (λ (k l : ℕ). get_or table (256 + (k + l)) 0) x.entry y.entry ∙ by.product a b x.byte y.byte

-- ---- logarithms of several numbers

pub same_number : {table : List ℕ} {a b i : ℕ} → a ≡ b → LogarithmOf table a i → LogarithmOf table b i
same_number {table} {i = i} e x = subst (λ (c : ℕ). LogarithmOf table c i) e x

-- stores one more logarithm
pub logarithms_next : (table : List ℕ) (y : ℕ → ℕ) (n : ℕ) (logs : List ℕ) (i : ℕ) → n < length logs
    → LogarithmsOf table y n logs
    → LogarithmOf table (y n) i → LogarithmsOf table y (n + 1) (set logs n i)
logarithms_next table y n logs i h l x j hj = at (ℕ_discrete j n)
  where
    at : Dec (j ≡ n) → LogarithmOf table (y j) (get_or (set logs n i) j 0)
    at (yes e) = rw (e, get_or-set_same logs n i 0 h) x
    at (no d) = rw (get_or-set_other logs n j i 0 d) (l j (omega arith))
