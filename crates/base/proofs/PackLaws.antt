-- The steps of the loops that pack and unpack: digits are read one by one, written one by one from the last, and
-- regrouped group by group.
use Prim.Native.Nat.{ℕ, zero, suc, ◌+◌, ◌-◌, ◌*◌, ◌/◌, ◌%◌, ◌^◌, ◌≤◌, ◌<◌}
use mathlib.Core.Path.{◌≡◌, refl, sym, ap, ap₂, ◌∙◌, subst}
use mathlib.Core.List.{List, [], ◌∷◌, ◌++◌}
use native.Mathlib.Nat.{le_trans, lt_of_lt_of_le, suc-mul, mul-le-mul_right, pow-zero, pow-suc, pow-le-pow_right}
use native.Mathlib.Nat.{div-one, div-div-eq-div-mul}
use native.Mathlib.Numerals.{add-one}
use native.Mathlib.Omega.{arith}
use lib.ListN.{length, take, drop, get_or, set, length-append, length-drop}
use lib.Seq.{take_all, take-suc, take-add, take-take, drop-drop, drop_at, length-take-le, set_split}
use Rattle.base.specs.Lists.{overlaid}
use Rattle.base.specs.Digits.{value, digits, part}
use Rattle.base.specs.Packing.{Below}
use Rattle.base.proofs.ListLaws.{laid_more, overlaid_whole}
use Rattle.base.proofs.DigitLaws.{take_below, drop_below, length_digits, value_append, value_snoc, value_below}
use Rattle.base.proofs.DigitLaws.{digits_join}

pub below_part : (b at n : ℕ) (xs : List ℕ) → Below b xs → Below b (part at n xs)
below_part b at n xs h = take_below n (drop at xs) (drop_below at xs h)

-- ---- reading: one more digit

pub value_more : (b : ℕ) (xs : List ℕ) (k : ℕ) → k < length xs
    → value b (take (k + 1) xs) ≡ value b (take k xs) * b + get_or xs k 0
value_more b xs k h = rw (add-one k, take-suc xs k 0 h) (value_snoc b (take k xs) (get_or xs k 0))

-- the number read so far is below what all the digits can write
pub value_fits : (b n : ℕ) (xs : List ℕ) (k : ℕ) → Below b xs → k < length xs → b ^ length xs ≤ n
    → value b (take k xs) * b + get_or xs k 0 < n
value_fits b n xs k below h fits =
    rw (← value_more b xs k h)
    (lt_of_lt_of_le
    (subst (λ (l : ℕ). value b (take (k + 1) xs) < b ^ l) (length-take-le (k + 1) xs (omega arith))
    (value_below b (take (k + 1) xs) (take_below (k + 1) xs below)))
    (le_trans (pow-le-pow_right (omega (arith, below 0)) (omega arith)) fits))

-- ---- writing: one more digit, from the last

drop_set_same : (xs : List ℕ) (i a : ℕ) → i < length xs → drop i (set xs i a) ≡ a ∷ drop (suc i) xs
drop_set_same xs i a h =
    rw (set_split xs i a h) (drop_at (take i xs) (a ∷ drop (suc i) xs) i (length-take-le i xs (omega arith)))

pub spelled_more : (b number v n i : ℕ) (xs : List ℕ) → i < length xs → drop (suc i) xs ≡ digits b n number
    → v ≡ number / b ^ n
    → drop i (set xs i (v % b)) ≡ digits b (suc n) number
unfolding digits
spelled_more b number v n i xs h e ev = drop_set_same xs i (v % b) h ∙ ap₂ (λ (x : ℕ) (l : List ℕ). x % b ∷ l) ev e

pub spelled_rest : (b number v n : ℕ) → v ≡ number / b ^ n → v / b ≡ number / b ^ suc n
spelled_rest b number v n ev =
    ap (λ (x : ℕ). x / b) ev ∙ div-div-eq-div-mul number (b ^ n) b ∙ ap (λ (x : ℕ). number / x) (sym (pow-suc b n))

pub spelled_none : (b number : ℕ) → number ≡ number / b ^ 0
spelled_none b number = sym (ap (λ (x : ℕ). number / x) (pow-zero b) ∙ div-one number)

-- ---- regrouping: one more group

pub length_part : (at n : ℕ) (xs : List ℕ) → at + n ≤ length xs → length (part at n xs) ≡ n
length_part at n xs h = length-take-le n (drop at xs) (rw (length-drop at xs) (omega arith))

-- a part of a part
within : (k m n : ℕ) (xs : List ℕ) → k + m ≤ n → take m (drop k (take n xs)) ≡ take m (drop k xs)
within zero m n xs h = take-take m n xs (omega arith)
within (suc k) m zero xs h = absurd (omega arith)
within (suc k) m (suc n) [] h = refl
within (suc k) m (suc n) (x ∷ xs) h = within k m n xs (omega arith)

pub part_part : (at n k m : ℕ) (xs : List ℕ) → k + m ≤ n → part k m (part at n xs) ≡ part (at + k) m xs
part_part at n k m xs h = within k m n (drop at xs) h ∙ ap (take m) (drop-drop k at xs)

-- if fewer than all groups are done, a whole group is left
pub group_end : (k groups m : ℕ) → k < groups → k * m + m ≤ groups * m
group_end k groups m h = rw (← suc-mul k m) (mul-le-mul_right m h)

pub group_next : (k m i : ℕ) → i ≡ k * m → i + m ≡ (k + 1) * m
group_next k m i e = rw (add-one k, suc-mul k m) (ap (λ (x : ℕ). x + m) e)

-- one group written in its place, as the borrow of a part leaves it
pub group_back : (b m to n i j v : ℕ) (src out₀ out got : List ℕ) → Below b src → i + m ≤ length src
    → j + n ≤ length out → b ^ m ≡ to ^ n → 0 < to
    → out ≡ overlaid (digits to j (value b (take i src))) out₀
    → v ≡ value b (part i (i + m - i) src) → got ≡ digits to (length (part j (j + n - j) out)) v
    → take j out ++ (got ++ drop (j + n - j) (drop j out))
    ≡ overlaid (digits to (j + n) (value b (take (i + m) src))) out₀
group_back b m to n i j v src out₀ out got below fits room e p o ev eg =
    let en : j + n - j ≡ n = omega arith in
    let em : i + m - i ≡ m = omega arith in
    let l = length_part i m src fits in
    let w : value b (part i m src) < to ^ n =
    subst (λ (p : ℕ). value b (part i m src) < p) (ap (λ (k : ℕ). b ^ k) l ∙ e)
    (value_below b (part i m src) (below_part b i m src below)) in
    rw (
      eg,
      ev,
      en,
      em,
      length_part j n out room,
      take-add i m src,
      value_append b (take i src) (part i m src),
      l,
      e,
      digits_join to j n (value b (take i src)) (value b (part i m src)) p w,
    )
    (laid_more (digits to j (value b (take i src))) (digits to n (value b (part i m src))) out₀ out j n o
    (length_digits to j _) (length_digits to n _))

-- the rest written after the last group
pub last_back : (b to i j v : ℕ) (src out₀ out got : List ℕ) → j ≤ length out₀ → length out ≡ length out₀
    → out ≡ overlaid (digits to j (value b (take i src))) out₀
    → got ≡ digits to (length (part j (length out - j) out)) v
    → take j out ++ (got ++ drop (length out - j) (drop j out))
    ≡ digits to j (value b (take i src)) ++ digits to (length out₀ - j) v
last_back b to i j v src out₀ out got h l o eg =
    let front = digits to j (value b (take i src)) in
    let n : ℕ = length out₀ - j in
    rw (eg, l, length_part j n out (omega arith))
    (laid_more front (digits to n v) out₀ out j n o (length_digits to j _) (length_digits to n v)
    ∙ overlaid_whole (front ++ digits to n v) out₀
    (omega (
      arith,
      length-append front (digits to n v),
      length_digits to j (value b (take i src)),
      length_digits to n v,
    )))

-- ---- the last digit apart

pub value_last : (b n : ℕ) (xs : List ℕ) → length xs ≡ n + 1 → value b xs ≡ value b (take n xs) * b + get_or xs n 0
value_last b n xs l = ap (value b) (sym (take_all (n + 1) xs (omega arith))) ∙ value_more b xs n (omega arith)
