-- The constants of a number, one after another: each is x times the one before.
use Prim.Native.Nat.{ℕ, zero, suc, ◌+◌, ◌*◌, ◌%◌, ◌^◌, ◌≤◌, ◌<◌}
use mathlib.Core.Path.{◌≡◌, refl, sym, ap, ◌∙◌}
use mathlib.Core.List.{List}
use mathlib.Core.Logic.{◌⊎◌, inl, inr, ⊎_elim}
use native.Mathlib.Nat.{zero-lt-suc, mod-lt, one-mul, le_refl}
use native.Mathlib.Numerals.{add-one}
use native.Mathlib.Omega.{arith}
use native.Mathlib.Decide.{ℕ_discrete}
use lib.Pow.{pow_pos, pow_mono, shl_exact}
use lib.ListN.{length, get_or, set, replicate, length-set}
use lib.Seq.{get_or-set_same, get_or-set_other}
use Rattle.base.specs.Packing.{Below}
use Rattle.field.specs.Binary.{Operations}
use Rattle.field.specs.Polynomial.{Degree, times_x, times, polynomials}
use Rattle.field.proofs.Laws.{step_below, times_one, times_next}
use Rattle.matrix_columns.specs.steps.Constants.{Multiples, Filled, AllFilled, Reciprocals, Constants}

-- the size of the field, as the code computes it
pub size_is : (bits : ℕ) → bits ≤ 8 → 1 * 2 ^ bits % 2 ^ 64 ≡ 2 ^ bits
size_is bits h = shl_exact 1 bits 64 (le_refl 2) (omega arith) ∙ one-mul (2 ^ bits)

size_at_most : (bits : ℕ) → bits ≤ 8 → 2 ^ bits ≤ 256
size_at_most bits h = pow_mono h

-- a list of bytes stays a list of bytes when a byte is stored in it
bytes_set : (l : List ℕ) (i v : ℕ) → i < length l → v < 256 → Below 256 l → Below 256 (set l i v)
bytes_set l i v h b all k = at (ℕ_discrete k i)
  where
    at : Dec (k ≡ i) → get_or (set l i v) k 0 < 256
    at (yes e) = omega (arith, ap (λ (j : ℕ). get_or (set l i v) j 0) e ∙ get_or-set_same l i v 0 h)
    at (no n) = omega (arith, get_or-set_other l i k v 0 n, all k)

-- the first i constants are stored, and `product` is the next one
pub record Filling (bits modulus number at i : ℕ) (before after : List ℕ) (product : ℕ) : Type 0 where
  pub filled : Filled (polynomials bits modulus) bits number at i before after
  pub below : product < 2 ^ bits
  pub next : i < bits → product ≡ times bits modulus number (2 ^ i)

module _ {bits modulus : ℕ} (degree : Degree bits modulus) (small : bits ≤ 8) (number at : ℕ) where
  pub none_filled : (before : List ℕ) → Below 256 before
      → Filling bits modulus number at 0 before before (number % 2 ^ bits)
  none_filled before b =
      record {
        filled = record { size = refl; bytes = b; there = λ i h. absurd (omega arith); elsewhere = λ k h. refl };
        below = mod-lt number (pow_pos bits);
        next = λ h. sym (times_one degree number);
      }

  pub next_filled : (i : ℕ) (before after : List ℕ) (product : ℕ) → at + 8 ≤ length before → i < bits
      → Filling bits modulus number at i before after product
      → Filling bits modulus number at (i + 1) before (set after (at + i) product) (times_x bits modulus product)
  next_filled i before after product room h f =
      record {
        filled = record {
          size = length-set after (at + i) product ∙ f.filled.size;
          bytes =
              bytes_set after (at + i) product (omega (arith, f.filled.size))
              (omega (arith, f.below, size_at_most bits small)) f.filled.bytes;
          there = λ k l. there k l (ℕ_discrete k i);
          elsewhere = λ k l. get_or-set_other after (at + i) k product 0 (apart k l) ∙ f.filled.elsewhere k l;
        };
        below = step_below degree product f.below;
        next = λ l.
            ap (times_x bits modulus) (f.next h) ∙ sym (times_next degree number i (omega arith))
            ∙ ap (λ (k : ℕ). times bits modulus number (2 ^ k)) (sym (add-one i));
      }
    where
      apart : (k : ℕ) → (k < at) ⊎ (at + bits ≤ k) → k ≡ at + i → ⊥
      apart k l e = ⊎_elim (λ (a : k < at). omega arith) (λ (a : at + bits ≤ k). omega arith) l

      there : (k : ℕ) → k < i + 1 → Dec (k ≡ i)
          → get_or (set after (at + i) product) (at + k) 0 ≡ times bits modulus number (2 ^ k)
      there k l (yes e) = rw e (get_or-set_same after (at + i) product 0 (omega (arith, f.filled.size)) ∙ f.next h)
      there k l (no n) =
          get_or-set_other after (at + i) (at + k) product 0 (omega arith) ∙ f.filled.there k (omega arith)

-- ---- eight numbers, eight places for each

-- a list of zeros is a list of bytes
pub zero_bytes : (n k : ℕ) → get_or (replicate n 0) k 0 < 256
zero_bytes zero k = zero-lt-suc 255
zero_bytes (suc n) zero = zero-lt-suc 255
zero_bytes (suc n) (suc k) = zero_bytes n k

module _ (F : Operations) (bits : ℕ) (numbers : List ℕ) (from : ℕ) (before : List ℕ) where
  pub none_row : length before ≡ 128 → Below 256 before → AllFilled F bits numbers from 0 before before
  none_row l b = record { size = l; bytes = b; there = λ a h. absurd (omega arith); elsewhere = λ k h. refl }

  pub next_row : (n : ℕ) (list after : List ℕ) → bits ≤ 8 → n < 8 → AllFilled F bits numbers from n before list
      → Filled F bits (get_or numbers n 0) (from + 8 * n) bits list after
      → AllFilled F bits numbers from (n + 1) before after
  next_row n list after small h r f =
      record {
        size = f.size ∙ r.size;
        bytes = f.bytes;
        there = λ a l. there a l (ℕ_discrete a n);
        elsewhere =
            λ k l. f.elsewhere k
            (⊎_elim (λ (a : k < from). inl (omega arith)) (λ (a : from + 64 ≤ k). inr (omega arith)) l)
            ∙ r.elsewhere k l;
      }
    where
      there : (a : ℕ) → a < n + 1 → Dec (a ≡ n) → Multiples F bits after (from + 8 * a) (get_or numbers a 0)
      there a l (yes e) = rw e f.there
      there a l (no d) = λ i hi. f.elsewhere (from + 8 * a + i) (inl (omega arith)) ∙ r.there a (omega arith) i hi

-- if the constants of the T-values are stored first, and then those of their reciprocals, the list holds all constants
pub both_rows : (F : Operations) (bits : ℕ) (ts rs before list after : List ℕ) → bits ≤ 8 → Reciprocals F ts rs
    → AllFilled F bits ts 0 8 before list → AllFilled F bits rs 64 8 list after → Constants F bits ts after
both_rows F bits ts rs before list after small inverse v r =
    record {
      bytes = r.bytes;
      of_value = λ a h i hi.
          (let e : 8 * a + i ≡ 0 + 8 * a + i = omega arith in
          r.elsewhere (8 * a + i) (inl (omega arith)) ∙ ap (λ (k : ℕ). get_or list k 0) e ∙ v.there a h i hi);
      of_reciprocal = λ a h i hi. r.there a h i hi ∙ ap (λ (t : ℕ). F.mul t (2 ^ i)) (inverse a h);
    }
