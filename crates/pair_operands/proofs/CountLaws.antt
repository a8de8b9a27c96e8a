-- Labels counted in one number: byte a of it counts label a. A count is at most 8, so no byte overflows, and the number
-- says of each label how often it occurs.
use Prim.Native.Nat.{ℕ, zero, suc, ◌+◌, ◌^◌, ◌≤◌, ◌<◌}
use mathlib.Core.Path.{◌≡◌, sym, ap, ◌∙◌}
use mathlib.Core.Bool.{Bool, true, cond, ◌&&◌}
use mathlib.Core.List.{List, [], ◌∷◌}
use native.Mathlib.Decide.{ℕ_discrete}
use native.Mathlib.Omega.{arith}
use borrow.Author.Tests.{eq-eqb, ne_eqb, eqb-true}
use lib.Dec.{eqb, ltb}
use lib.ListN.{length, take, get_or}
use Rattle.base.specs.Lists.{every, count, values_from, values, each_once}
use Rattle.base.specs.Digits.{value, digits}
use Rattle.base.proofs.ListLaws.{not_true_false, every_values, tally_more, tally_le}
use Rattle.base.proofs.DigitLaws.{digits_value}

-- eight counts, the last first, and the number whose bytes they are
abbrev eight : (ℕ → ℕ) → List ℕ
eight n = n 7 ∷ n 6 ∷ n 5 ∷ n 4 ∷ n 3 ∷ n 2 ∷ n 1 ∷ n 0 ∷ []

abbrev pub in_bytes : (ℕ → ℕ) → ℕ
in_bytes n = value 256 (eight n)

-- the counts of the labels 0 to 7 in a list
abbrev pub counted : List ℕ → ℕ
counted xs = in_bytes (λ a. count a xs)

-- one more label
one_more : (x : ℕ) → x < 8 → (n : ℕ → ℕ) → in_bytes (λ a. cond (eqb x a) (n a + 1) (n a)) ≡ in_bytes n + 256 ^ x
unfolding value
one_more zero h n = omega arith
one_more (suc zero) h n = omega arith
one_more (suc (suc zero)) h n = omega arith
one_more (suc (suc (suc zero))) h n = omega arith
one_more (suc (suc (suc (suc zero)))) h n = omega arith
one_more (suc (suc (suc (suc (suc zero))))) h n = omega arith
one_more (suc (suc (suc (suc (suc (suc zero)))))) h n = omega arith
one_more (suc (suc (suc (suc (suc (suc (suc zero))))))) h n = omega arith
one_more (suc (suc (suc (suc (suc (suc (suc (suc x)))))))) h n = absurd (omega arith)

pub counted_more : (xs : List ℕ) (k : ℕ) → k < length xs → get_or xs k 0 < 8
    → counted (take (k + 1) xs) ≡ counted (take k xs) + 256 ^ get_or xs k 0
counted_more xs k h b =
    let at : (a : ℕ) → count a (take (k + 1) xs)
    ≡ cond (eqb (get_or xs k 0) a) (count a (take k xs) + 1) (count a (take k xs)) =
    λ a. tally_more (λ x. eqb x a) xs k h in
    (λ i. in_bytes (λ a. at a i)) ∙ one_more (get_or xs k 0) b (λ a. count a (take k xs))

-- the number whose eight bytes are 1
abbrev pub ones : ℕ
ones = 72340172838076673

-- eight counts of at most 8 are all 1 exactly if their number is `ones`
module _ (n : ℕ → ℕ) (few : (a : ℕ) → n a ≤ 8) where
  bytes : (k : ℕ) → get_or (eight n) k 0 < 256
  bytes zero = omega (arith, few 7)
  bytes (suc zero) = omega (arith, few 6)
  bytes (suc (suc zero)) = omega (arith, few 5)
  bytes (suc (suc (suc zero))) = omega (arith, few 4)
  bytes (suc (suc (suc (suc zero)))) = omega (arith, few 3)
  bytes (suc (suc (suc (suc (suc zero))))) = omega (arith, few 2)
  bytes (suc (suc (suc (suc (suc (suc zero)))))) = omega (arith, few 1)
  bytes (suc (suc (suc (suc (suc (suc (suc zero))))))) = omega (arith, few 0)
  bytes (suc (suc (suc (suc (suc (suc (suc (suc k)))))))) = omega arith

  all_one : in_bytes n ≡ ones → every (λ a. eqb (n a) 1) (values (λ a. a) 8) ≡ true
  unfolding every values_from digits
  all_one e =
      let each : eight n ≡ digits 256 8 ones = sym (digits_value 256 (eight n) bytes) ∙ ap (digits 256 8) e in
      ap (λ (l : List ℕ). let x : ℕ → Bool = λ k. eqb (get_or l k 0) 1 in
      x 7 && (x 6 && (x 5 && (x 4 && (x 3 && (x 2 && (x 1 && (x 0 && true)))))))) each

  one_all : every (λ a. eqb (n a) 1) (values (λ a. a) 8) ≡ true → in_bytes n ≡ ones
  unfolding value
  one_all t =
      let at : (a : ℕ) → a < 8 → n a ≡ 1 =
      λ a h. eqb-true (n a) 1 (every_values (λ a. eqb (n a) 1) (λ a. a) 8 t a h) in
      λ i. value 256
      (at 7 (omega arith) i ∷ at 6 (omega arith) i ∷ at 5 (omega arith) i ∷ at 4 (omega arith) i
      ∷ at 3 (omega arith) i ∷ at 2 (omega arith) i ∷ at 1 (omega arith) i ∷ at 0 (omega arith) i ∷ [])

  each_one : eqb (in_bytes n) ones ≡ every (λ a. eqb (n a) 1) (values (λ a. a) 8)
  each_one = go (ℕ_discrete (in_bytes n) ones)
    where
      go : Dec (in_bytes n ≡ ones) → eqb (in_bytes n) ones ≡ every (λ a. eqb (n a) 1) (values (λ a. a) 8)
      go (yes e) = eq-eqb (in_bytes n) ones e ∙ sym (all_one e)
      go (no d) =
          ne_eqb (in_bytes n) ones d
          ∙ sym (not_true_false (every (λ a. eqb (n a) 1) (values (λ a. a) 8)) (λ t. d (one_all t)))

-- if all eight labels are below 8, their counts are all 1 exactly if the list is 0 to 7, each once
pub order_counted : (xs : List ℕ) → length xs ≡ 8 → every (λ x. ltb x 8) xs ≡ true
    → eqb (counted xs) ones ≡ each_once 8 xs
unfolding each_once
order_counted xs l e =
    each_one (λ a. count a xs) (λ a. let t = tally_le (λ x. eqb x a) xs in omega (arith, t))
    ∙ sym (ap (λ (b : Bool). b && every (λ a. eqb (count a xs) 1) (values (λ a. a) 8)) e)

-- if a label is not below 8, the list is not 0 to 7, each once
pub order_refuted : (xs : List ℕ) {b : Bool} → every (λ x. ltb x 8) xs ≡ b
    → each_once 8 xs ≡ (b && every (λ a. eqb (count a xs) 1) (values (λ a. a) 8))
unfolding each_once
order_refuted xs e = ap (λ (b : Bool). b && every (λ a. eqb (count a xs) 1) (values (λ a. a) 8)) e
