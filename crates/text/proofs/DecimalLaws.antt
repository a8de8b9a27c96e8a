-- Laws of decimal text, for every number. The text reads back as the number, has no zero in front, and is the only such
-- text. Then: how long it is, and the digits one by one, as the code writes them.
use Prim.Native.Nat.{ℕ, zero, suc, ◌+◌, ◌-◌, ◌*◌, ◌^◌, ◌≤◌, ◌<◌}
use native.Mathlib.Nat.{mul-le-mul_right, pow-suc, pow-zero, pow-le-pow_right}
use native.Mathlib.Decide.{dec_le}
use native.Mathlib.Omega.{arith}
use mathlib.Core.Path.{◌≡◌, refl, sym, ap, ap₂, ◌∙◌}
use mathlib.Core.Bool.{true}
use mathlib.Core.Logic.{◌⊎◌, inl, inr}
use mathlib.Core.List.{List, [], ◌∷◌, ◌++◌, map}
use borrow.Author.Tests.{ltb-true, ltb-false}
use lib.Dec.{ltb}
use lib.ListN.{length, take, drop, get_or, set, length-map}
use lib.Seq.{length-take-le, get_or-drop}
use Rattle.std.proofs.lemmas.List.{get_or-append_right, get_or-map}
use Rattle.base.specs.Digits.{value, digits}
use Rattle.base.specs.Packing.{Below}
use Rattle.base.proofs.DigitLaws.{length_digits, value_below, value_digits_below, digits_value}
use Rattle.base.specs.Lists.{first_from}
use Rattle.base.proofs.ListLaws.{overlay_step}
use Rattle.base.proofs.SearchLaws.{first_from_lem, first_passes, first_least}
use Rattle.text.specs.Decimal.{places, shown, decimal}

-- ---- how many digits

-- a number is below 10 to the power of itself
pub below_power : (n : ℕ) → n < 10 ^ n
below_power zero = omega (arith, pow-zero 10)
below_power (suc n) = omega (arith, pow-suc 10 n, below_power n)

module _ (n : ℕ) where
  places_positive : 1 ≤ places n
  unfolding places
  places_positive = first_from_lem (λ k. ltb n (10 ^ k)) 1 n

  -- a number has as many digits as it needs
  places_enough : n < 10 ^ places n
  unfolding places
  places_enough = go (first_passes (λ k. ltb n (10 ^ k)) 1 n)
    where
      most : ℕ
      most = first_from (λ k. ltb n (10 ^ k)) 1 n

      go : (ltb n (10 ^ most) ≡ true) ⊎ (most ≡ 1 + n) → n < 10 ^ most
      go (inl e) = ltb-true n (10 ^ most) e
      go (inr e) = let s : most ≡ suc n = omega arith in rw s (omega (arith, pow-suc 10 n, below_power n))

  -- A number has no more digits than it needs, so no zero stands in front. Exception: 0 has one digit.
  pub places_needed : (k : ℕ) → 1 ≤ k → k < places n → 10 ^ k ≤ n
  unfolding places
  places_needed k h l = ltb-false n (10 ^ k) (first_least (λ k. ltb n (10 ^ k)) 1 n k h l)

  -- the number of digits, if k digits are enough
  places_few : (k : ℕ) → 1 ≤ k → n < 10 ^ k → places n ≤ k
  places_few k h l = go (dec_le (places n) k)
    where
      go : Dec (places n ≤ k) → places n ≤ k
      go (yes e) = e
      go (no e) = absurd (omega (arith, places_needed k h (omega arith)))

  -- k digits are enough, and no fewer are
  pub places_are : (k : ℕ) → 1 ≤ k → n < 10 ^ k → (1 < k → 10 ^ (k - 1) ≤ n) → k ≡ places n
  places_are k h l needed = go (dec_le k (places n))
    where
      go : Dec (k ≤ places n) → k ≡ places n
      go (yes e) = omega (arith, places_few k h l)
      go (no e) =
          let p = places_positive in
          let m : 10 ^ places n ≤ 10 ^ (k - 1) = pow-le-pow_right (omega arith) (omega arith) in
          absurd (omega (arith, places_enough, needed (omega arith)))

-- ---- the text

pub length_decimal : (n : ℕ) → length (decimal n) ≡ places n
unfolding decimal
length_decimal n = length-map (digits 10 (places n) n) (λ d. 48 + d) ∙ length_digits 10 (places n) n

-- a number below 10 to the power k has at most k digits
pub decimal_short : (n k : ℕ) → 1 ≤ k → n < 10 ^ k → length (decimal n) ≤ k
decimal_short n k h l = omega (arith, length_decimal n, places_few n k h l)

-- digits shown read back as the digits
shown_back : (ds : List ℕ) → map (λ x. x - 48) (shown ds) ≡ ds
shown_back [] = refl
shown_back (d ∷ ds) = let e : 48 + d - 48 ≡ d = omega arith in ap₂ (λ (x : ℕ) (l : List ℕ). x ∷ l) e (shown_back ds)

-- the text reads back as the number
pub decimal_reads : (n : ℕ) → value 10 (map (λ x. x - 48) (decimal n)) ≡ n
unfolding decimal
decimal_reads n =
    ap (value 10) (shown_back (digits 10 (places n) n))
    ∙ value_digits_below 10 (places n) n (omega arith) (places_enough n)

-- a row of digits whose first is not 0 writes at least 10 to the power of the number of the others
first_not_zero : (ds : List ℕ) → 1 ≤ length ds → 1 ≤ get_or ds 0 0 → 10 ^ (length ds - 1) ≤ value 10 ds
unfolding value
first_not_zero [] h z = absurd (omega arith)
first_not_zero (d ∷ ds) h z =
    let size : suc (length ds) - 1 ≡ length ds = omega arith in
    let one : 1 * 10 ^ length ds ≤ d * 10 ^ length ds = mul-le-mul_right (10 ^ length ds) z in
    rw size (omega arith)

-- the text is the only row of digits that reads back as the number and has no zero in front of other digits
pub decimal_only : (ds : List ℕ) → Below 10 ds → 1 ≤ length ds → (1 < length ds → 1 ≤ get_or ds 0 0)
    → shown ds ≡ decimal (value 10 ds)
unfolding decimal
decimal_only ds below some front =
    ap shown (sym (digits_value 10 ds below) ∙ ap (λ (k : ℕ). digits 10 k (value 10 ds)) size)
  where
    size : length ds ≡ places (value 10 ds)
    size = places_are (value 10 ds) (length ds) some (value_below 10 ds below) (λ m. first_not_zero ds some (front m))

-- ---- as the code counts and writes them

-- digits before place i are shown as bytes, and the others are unchanged: one more digit
module _ (ds : List ℕ) (i : ℕ) (h : i < length ds) where
  abbrev so_far : List ℕ
  so_far = take i (shown ds) ++ drop i ds

  size : length (shown ds) ≡ length ds
  size = length-map ds (λ d. 48 + d)

  pub digit_next : get_or so_far i 0 ≡ get_or ds i 0
  digit_next =
      let here : i + (i - i) ≡ i = omega arith in
      get_or-append_right (take i (shown ds)) (drop i ds) i i 0 (length-take-le i (shown ds) (omega (arith, size)))
      (omega arith)
      ∙ get_or-drop i ds (i - i) 0
      ∙ ap (λ (k : ℕ). get_or ds k 0) here

  pub digit_shown : set so_far i (get_or so_far i 0 + 48) ≡ take (i + 1) (shown ds) ++ drop (i + 1) ds
  digit_shown =
      let byte : get_or so_far i 0 + 48 ≡ get_or (shown ds) i 0 =
      omega (arith, digit_next, get_or-map (λ (d : ℕ). 48 + d) ds i 0 0 h) in
      ap (set so_far i) byte ∙ overlay_step (shown ds) ds i (omega (arith, size)) h
