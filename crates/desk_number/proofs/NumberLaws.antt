-- Laws of the number that an argument writes: each number below 65,536 is written by its decimal text and by no other;
-- one more digit; a number in decimal at the front of a buffer.
use Prim.Native.Nat.{ℕ, suc, ◌+◌, ◌-◌, ◌*◌, ◌^◌, ◌≤◌, ◌<◌}
use mathlib.Core.Path.{◌≡◌, refl, sym, ap, ◌∙◌}
use mathlib.Core.Bool.{Bool, true, false, cond, ◌&&◌}
use mathlib.Core.List.{List, [], ◌∷◌, ◌++◌, map, map-append, append_assoc}
use native.Mathlib.Nat.{pow-le-pow_right}
use native.Mathlib.Numerals.{add-one}
use native.Mathlib.Omega.{arith}
use borrow.Author.Tests.{lt-ltb, ltb-true}
use lib.Dec.{ltb}
use lib.ListN.{length, take, drop, get_or, length-append}
use lib.Seq.{take-suc, take-append_seam}
use Rattle.base.specs.Lists.{equal, overlaid}
use Rattle.base.specs.Digits.{value}
use Rattle.base.specs.steps.Laying.{Laid}
use Rattle.base.proofs.DigitLaws.{value_snoc}
use Rattle.base.proofs.ListLaws.{and_left, and_right, and_both, equal_true, equal_of, true_false}
use Rattle.text.specs.Decimal.{decimal}
use Rattle.text.proofs.DecimalLaws.{decimal_short, decimal_reads}
use Rattle.desk_number.specs.Numbers.{shown_number, number_of}

-- ---- which argument writes a number

module _ (a : List ℕ) where
  abbrev Written : Bool
  Written = equal a (decimal (shown_number a)) && ltb (shown_number a) 65536

  given : (t : Bool) → Written ≡ t → number_of a ≡ cond t (shown_number a) 65536
  unfolding number_of
  given t e = ap (λ (b : Bool). cond b (shown_number a) 65536) e

  -- the argument is a number in decimal
  pub written : equal a (decimal (shown_number a)) ≡ true → shown_number a < 65536 → number_of a ≡ shown_number a
  written e h = given true (and_both e (lt-ltb (shown_number a) 65536 h))

  -- the argument is not a number in decimal, or the number is too large
  not_written : (Written ≡ true → ⊥) → number_of a ≡ 65536
  not_written h = go Written refl
    where
      go : (t : Bool) → Written ≡ t → number_of a ≡ 65536
      go true e = absurd (h e)
      go false e = given false e

  pub not_equal : equal a (decimal (shown_number a)) ≡ false → number_of a ≡ 65536
  not_equal e = not_written (λ t. true_false _ (and_left _ (ltb (shown_number a) 65536) t) e)

  pub too_large : 65535 < shown_number a → number_of a ≡ 65536
  too_large h =
      not_written (λ t.
      let l = ltb-true (shown_number a) 65536 (and_right (equal a (decimal (shown_number a))) _ t) in omega arith)

  pub too_long : 5 < length a → number_of a ≡ 65536
  too_long h =
      not_written (λ t.
      let n = shown_number a in
      let e = equal_true a (decimal n) (and_left _ (ltb n 65536) t) in
      let l = ltb-true n 65536 (and_right (equal a (decimal n)) _ t) in
      omega (arith, ap length e, decimal_short n 5 (omega arith) (omega arith)))

-- the decimal text of a number is the argument that writes it
pub number_read : (n : ℕ) → n < 65536 → number_of (decimal n) ≡ n
unfolding shown_number
number_read n h =
    let e : shown_number (decimal n) ≡ n = decimal_reads n in
    written (decimal n) (equal_of (ap decimal (sym e))) (omega arith) ∙ e

-- no argument but the decimal text writes the number
pub only_decimal : (a : List ℕ) (n : ℕ) → number_of a ≡ n → n < 65536 → a ≡ decimal n
only_decimal a n e h = go (Written a) refl
  where
    go : (t : Bool) → Written a ≡ t → a ≡ decimal n
    go true w =
        equal_true a (decimal (shown_number a)) (and_left _ (ltb (shown_number a) 65536) w)
        ∙ ap decimal (sym (given a true w) ∙ e)
    go false w = let f = given a false w in absurd (omega arith)

-- ---- one more digit

abbrev digit_of : ℕ → ℕ
digit_of x = x - 48

pub shown_more : (xs : List ℕ) (k : ℕ) → k < length xs
    → shown_number (take (k + 1) xs) ≡ shown_number (take k xs) * 10 + (get_or xs k 0 - 48)
unfolding shown_number
shown_more xs k h =
    rw (add-one k, take-suc xs k 0 h)
    (ap (value 10) (map-append digit_of (take k xs) (get_or xs k 0 ∷ []))
    ∙ value_snoc 10 (map digit_of (take k xs)) (digit_of (get_or xs k 0)))

-- k digits, each below 256, show a number below 256 to the power k
pub one_more_fits : (v d k : ℕ) → v < 256 ^ k → d < 256 → v * 10 + d < 256 ^ (k + 1)
one_more_fits v d k h l = rw (add-one k) (omega arith)

pub fits_wide : (v k : ℕ) → v < 256 ^ k → k ≤ 5 → v < 2 ^ 40
fits_wide v k h l = let p : 256 ^ k ≤ 256 ^ 5 = pow-le-pow_right (omega arith) l in omega arith

-- ---- a number in decimal at the front of six bytes, and a byte after it

module _ (n : ℕ) (h : n < 65536) where
  pub number_short : length (decimal n) ≤ 5
  number_short = decimal_short n 5 (omega arith) (omega arith)

  module _ {before after : List ℕ} {end : ℕ} (a : Laid 0 (decimal n ++ (10 ∷ [])) before after end) where
    pub end_is : end ≡ length (decimal n) + 1
    end_is = omega (arith, a.ends, length-append (decimal n) (10 ∷ []))

    pub front_is : take (end - 1) after ≡ decimal n
    unfolding overlaid
    front_is =
        let size : end - 1 ≡ length (decimal n) = omega (arith, end_is) in
        let rest = drop (length (decimal n ++ (10 ∷ []))) before in
        ap (λ (k : ℕ). take k after) size
        ∙ ap (take (length (decimal n))) (a.lies ∙ append_assoc (decimal n) (10 ∷ []) rest)
        ∙ take-append_seam (decimal n) (10 ∷ rest)
