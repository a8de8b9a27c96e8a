-- Laws of digits: how many there are; the number that digits write, and the digits of a number, each the inverse of the
-- other; rows that are joined; half bytes one by one. "All below b" covers every place, also past the end, where `get_or`
-- gives 0.
use Prim.Native.Nat.{ℕ, zero, suc, ◌+◌, ◌*◌, ◌/◌, ◌%◌, ◌^◌, ◌<◌}
use mathlib.Core.Path.{◌≡◌, refl, sym, ap, ap₂, ◌∙◌}
use mathlib.Core.Bool.{Bool, true, ◌&&◌}
use mathlib.Core.List.{List, [], ◌∷◌, ◌++◌}
use native.Mathlib.Nat.{add_assoc, add_comm, add-zero, zero-add, suc-add, mul_comm, mul_assoc, add-mul, mul-one}
use native.Mathlib.Nat.{one-mul, zero-mul, pow-zero, pow-suc, pow-succ', one-le-pow, zero-lt-suc, mod-lt, mod-eq_of_lt}
use native.Mathlib.Nat.{mod-one, div-add-mod', div-div-eq-div-mul, add-mul-div_right, add-mul-mod_self_right}
use native.Mathlib.Numerals.{add-one}
use native.Mathlib.Omega.{arith}
use borrow.Author.Tests.{ltb-true, lt-ltb}
use lib.Dec.{ltb}
use lib.Arith.{digits_lt, digits_div, mod-mul}
use lib.Pow.{pow-add}
use lib.ListN.{length, take, drop, get_or, length-append}
use lib.Seq.{take-suc, take-nil, take-add, get_or-drop}
use Rattle.base.specs.Lists.{every}
use Rattle.base.specs.Digits.{value, digits, halves}
use Rattle.base.proofs.ListLaws.{and_true, every_from, every_append, every_all}

-- ---- all below b

pub all_below : (b : ℕ) (xs : List ℕ) → 0 < b → every (λ x. ltb x b) xs ≡ true → (k : ℕ) → get_or xs k 0 < b
all_below b xs p e k = ltb-true (get_or xs k 0) b (every_all (λ x. ltb x b) (lt-ltb 0 b p) xs e k)

pub below_all : (b : ℕ) (xs : List ℕ) → ((k : ℕ) → k < length xs → get_or xs k 0 < b) → every (λ x. ltb x b) xs ≡ true
below_all b xs h = every_from (λ x. ltb x b) xs (λ k l. lt-ltb (get_or xs k 0) b (h k l))

-- all below b: for a part of a row, and for two rows joined
pub take_below : {b : ℕ} (n : ℕ) (xs : List ℕ) → ((k : ℕ) → get_or xs k 0 < b) → (k : ℕ) → get_or (take n xs) k 0 < b
take_below zero xs h k = omega (arith, h k)
take_below (suc n) [] h k = h k
take_below (suc n) (x ∷ xs) h zero = h zero
take_below (suc n) (x ∷ xs) h (suc k) = take_below n xs (λ j. h (suc j)) k

pub drop_below : {b : ℕ} (n : ℕ) (xs : List ℕ) → ((k : ℕ) → get_or xs k 0 < b) → (k : ℕ) → get_or (drop n xs) k 0 < b
drop_below n xs h k = rw (get_or-drop n xs k 0) (h (n + k))

pub append_below : {b : ℕ} (xs ys : List ℕ) → ((k : ℕ) → get_or xs k 0 < b) → ((k : ℕ) → get_or ys k 0 < b) → (k : ℕ)
    → get_or (xs ++ ys) k 0 < b
append_below [] ys h g k = g k
append_below (x ∷ xs) ys h g zero = h zero
append_below (x ∷ xs) ys h g (suc k) = append_below xs ys (λ j. h (suc j)) g k

pub positive_pow : {b : ℕ} → 0 < b → (n : ℕ) → 0 < b ^ n
positive_pow {b} p n = one-le-pow n b p

-- ---- value

pub length_digits : (b n v : ℕ) → length (digits b n v) ≡ n
unfolding digits
length_digits b zero v = refl
length_digits b (suc n) v = ap suc (length_digits b n v)

value_step : (x p q r s : ℕ) → x * (p * q) + (r * q + s) ≡ (x * p + r) * q + s
value_step x p q r s = simp (add-mul, mul_assoc, add_assoc)

pub value_append : (b : ℕ) (xs ys : List ℕ) → value b (xs ++ ys) ≡ value b xs * b ^ length ys + value b ys
unfolding value
value_append b [] ys = rw (zero-mul, zero-add)
value_append b (x ∷ xs) ys =
    rw (length-append xs ys, pow-add b (length xs) (length ys), value_append b xs ys)
    (value_step x (b ^ length xs) (b ^ length ys) (value b xs) (value b ys))

-- one more digit
pub value_snoc : (b : ℕ) (xs : List ℕ) (x : ℕ) → value b (xs ++ (x ∷ [])) ≡ value b xs * b + x
unfolding value
value_snoc b xs x =
    let one : b ^ 1 ≡ b = pow-suc b 0 ∙ ap (λ (p : ℕ). p * b) (pow-zero b) ∙ one-mul b in
    let none : x * b ^ 0 ≡ x = ap (λ (p : ℕ). x * p) (pow-zero b) ∙ mul-one x in
    value_append b xs (x ∷ []) ∙ rw (one, none, add-zero x)

-- the number that two digits write
value_two : (b x y : ℕ) → value b (x ∷ y ∷ []) ≡ x * b + y
unfolding value
value_two b x y = value_snoc b (x ∷ []) y ∙ ap (λ (v : ℕ). v * b + y) (value_snoc b [] x ∙ rw (zero-mul b, zero-add x))

-- n digits below b write a number below b to the power n
pub value_below : (b : ℕ) (xs : List ℕ) → ((k : ℕ) → get_or xs k 0 < b) → value b xs < b ^ length xs
unfolding value
value_below b [] h = rw (pow-zero b) (zero-lt-suc 0)
value_below b (x ∷ xs) h =
    rw (pow-succ' b (length xs)) (digits_lt (h 0) (value_below b xs (λ k. h (suc k))))

-- ---- digits

pub digits_append : (b m n v : ℕ) → digits b (m + n) v ≡ digits b m (v / b ^ n) ++ digits b n v
unfolding digits
digits_append b zero n v = ap (λ (k : ℕ). digits b k v) (zero-add n)
digits_append b (suc m) n v =
    ap (λ (k : ℕ). digits b k v) (suc-add m n)
    ∙ ap₂ (λ (x : ℕ) (xs : List ℕ). x ∷ xs)
    (ap (λ (p : ℕ). v / p % b) (pow-add b m n ∙ mul_comm (b ^ m) (b ^ n))
    ∙ ap (λ (d : ℕ). d % b) (sym (div-div-eq-div-mul v (b ^ n) (b ^ m))))
    (digits_append b m n v)

-- adding a multiple of b to the power n does not change the last n digits
digits_add_multiple : (b n v w : ℕ) → 0 < b → digits b n (v + w * b ^ n) ≡ digits b n v
unfolding digits
digits_add_multiple b zero v w p = refl
digits_add_multiple b (suc n) v w p =
    rw (pow-suc b n, mul_comm (b ^ n) b, ← mul_assoc w b (b ^ n))
    (ap₂ (λ (x : ℕ) (xs : List ℕ). x ∷ xs)
    (ap (λ (d : ℕ). d % b) (add-mul-div_right v (w * b) (positive_pow p n)) ∙ add-mul-mod_self_right (v / b ^ n) w b)
    (digits_add_multiple b n v (w * b) p))

-- the digits of a number in two parts
pub digits_join : (b m n v w : ℕ) → 0 < b → w < b ^ n → digits b (m + n) (v * b ^ n + w) ≡ digits b m v ++ digits b n w
digits_join b m n v w p h =
    digits_append b m n (v * b ^ n + w)
    ∙ ap₂ (λ (d : ℕ) (r : List ℕ). digits b m d ++ r) (digits_div v h)
    (ap (digits b n) (add_comm (v * b ^ n) w) ∙ digits_add_multiple b n w v p)

pub digits_below : (b n v : ℕ) → 0 < b → (k : ℕ) → get_or (digits b n v) k 0 < b
unfolding digits
digits_below b zero v p k = p
digits_below b (suc n) v p zero = mod-lt (v / b ^ n) p
digits_below b (suc n) v p (suc k) = digits_below b n v p k

-- ---- value and digits are inverse to each other

value_digits : (b n v : ℕ) → 0 < b → value b (digits b n v) ≡ v % b ^ n
unfolding value digits
value_digits b zero v p = rw (pow-zero b) (sym (mod-one v))
value_digits b (suc n) v p =
    rw (length_digits b n v, value_digits b n v p, pow-succ' b n) (sym (mod-mul v p (positive_pow p n)))

pub value_digits_below : (b n v : ℕ) → 0 < b → v < b ^ n → value b (digits b n v) ≡ v
value_digits_below b n v p h = value_digits b n v p ∙ mod-eq_of_lt h

pub digits_value : (b : ℕ) (xs : List ℕ) → ((k : ℕ) → get_or xs k 0 < b) → digits b (length xs) (value b xs) ≡ xs
unfolding value digits
digits_value b [] h = refl
digits_value b (x ∷ xs) h =
    let p : 0 < b = omega (arith, h 0) in
    ap₂ (λ (y : ℕ) (ys : List ℕ). y ∷ ys)
    (ap (λ (d : ℕ). d % b) (digits_div x (value_below b xs (λ k. h (suc k)))) ∙ mod-eq_of_lt (h 0))
    (ap (digits b (length xs)) (add_comm (x * b ^ length xs) (value b xs))
    ∙ digits_add_multiple b (length xs) (value b xs) x p
    ∙ digits_value b xs (λ k. h (suc k)))

-- ---- half bytes

pub length_halves : (xs : List ℕ) → length (halves xs) ≡ 2 * length xs
unfolding halves
length_halves [] = refl
length_halves (x ∷ xs) = let e = length_halves xs in omega arith

pub halves_append : (xs ys : List ℕ) → halves (xs ++ ys) ≡ halves xs ++ halves ys
unfolding halves
halves_append [] ys = refl
halves_append (x ∷ xs) ys = ap (λ (l : List ℕ). x / 16 ∷ x % 16 ∷ l) (halves_append xs ys)

-- the half bytes of n more bytes
pub halves_more : (k n : ℕ) (xs : List ℕ) → halves (take (k + n) xs) ≡ halves (take k xs) ++ halves (take n (drop k xs))
halves_more k n xs = ap halves (take-add k n xs) ∙ halves_append (take k xs) (take n (drop k xs))

two_more : (n : ℕ) → 2 * suc n ≡ suc (suc (2 * n))
two_more n = omega arith

pub take_halves : (n : ℕ) (xs : List ℕ) → take (2 * n) (halves xs) ≡ halves (take n xs)
unfolding halves
take_halves zero xs = refl
take_halves (suc n) [] = take-nil (2 * suc n)
take_halves (suc n) (x ∷ xs) = rw (two_more n) (ap (λ (l : List ℕ). x / 16 ∷ x % 16 ∷ l) (take_halves n xs))

-- a test of the half bytes of one more byte
pub every_halves : (f : ℕ → Bool) (xs : List ℕ) (k : ℕ) → k < length xs
    → every f (take (2 * (k + 1)) (halves xs))
    ≡ every f (take (2 * k) (halves xs)) && (f (get_or xs k 0 / 16) && f (get_or xs k 0 % 16))
unfolding every halves
every_halves f xs k h =
    let x : ℕ = get_or xs k 0 in
    rw (take_halves (k + 1) xs, take_halves k xs, add-one k, take-suc xs k 0 h, halves_append (take k xs) (x ∷ []))
    (every_append f (halves (take k xs)) (x / 16 ∷ x % 16 ∷ [])
    ∙ ap (λ (b : Bool). every f (halves (take k xs)) && (f (x / 16) && b)) (and_true (f (x % 16))))

-- the half byte at an even place is the high half of its byte, at an odd place the low half
pub half_even : (xs : List ℕ) (k : ℕ) → k % 2 ≡ 0 → get_or (halves xs) k 0 ≡ get_or xs (k / 2) 0 / 16
unfolding halves
half_even [] k e = refl
half_even (x ∷ xs) zero e = refl
half_even (x ∷ xs) (suc zero) e = absurd (omega arith)
half_even (x ∷ xs) (suc (suc k)) e =
    let f : k % 2 ≡ 0 = omega arith in
    let g : suc (k / 2) ≡ suc (suc k) / 2 = omega arith in
    half_even xs k f ∙ ap (λ (j : ℕ). get_or (x ∷ xs) j 0 / 16) g

pub half_odd : (xs : List ℕ) (k : ℕ) → k % 2 ≡ 1 → get_or (halves xs) k 0 ≡ get_or xs (k / 2) 0 % 16
unfolding halves
half_odd [] k e = refl
half_odd (x ∷ xs) zero e = absurd (omega arith)
half_odd (x ∷ xs) (suc zero) e = refl
half_odd (x ∷ xs) (suc (suc k)) e =
    let f : k % 2 ≡ 1 = omega arith in
    let g : suc (k / 2) ≡ suc (suc k) / 2 = omega arith in
    half_odd xs k f ∙ ap (λ (j : ℕ). get_or (x ∷ xs) j 0 % 16) g

-- the half bytes of bytes are below 16
pub halves_below : (xs : List ℕ) → ((k : ℕ) → get_or xs k 0 < 256) → (k : ℕ) → get_or (halves xs) k 0 < 16
unfolding halves
halves_below [] h k = omega arith
halves_below (x ∷ xs) h zero = omega (arith, h 0)
halves_below (x ∷ xs) h (suc zero) = omega arith
halves_below (x ∷ xs) h (suc (suc k)) = halves_below xs (λ j. h (suc j)) k

-- half bytes and bytes write the same number
sixteen_twice : (n : ℕ) → 16 ^ (2 * n) ≡ 256 ^ n
sixteen_twice zero = refl
sixteen_twice (suc n) =
    rw (two_more n, pow-suc 16 (suc (2 * n)), pow-suc 16 (2 * n), pow-suc 256 n, sixteen_twice n) (omega arith)

value_halves : (xs : List ℕ) → value 16 (halves xs) ≡ value 256 xs
unfolding value halves
value_halves [] = refl
value_halves (x ∷ xs) =
    value_append 16 (x / 16 ∷ x % 16 ∷ []) (halves xs)
    ∙ ap₂ (λ (v p : ℕ). v * p + value 16 (halves xs))
    (value_two 16 (x / 16) (x % 16) ∙ div-add-mod' x 16)
    (ap (λ (n : ℕ). 16 ^ n) (length_halves xs) ∙ sixteen_twice (length xs))
    ∙ ap (λ (v : ℕ). x * 256 ^ length xs + v) (value_halves xs)

-- the half bytes of bytes are the digits to base 16 of the number that the bytes write
pub digits_halves : (xs : List ℕ) → ((k : ℕ) → get_or xs k 0 < 256) → digits 16 (2 * length xs) (value 256 xs)
    ≡ halves xs
digits_halves xs h =
    ap₂ (digits 16) (sym (length_halves xs)) (sym (value_halves xs)) ∙ digits_value 16 (halves xs) (halves_below xs h)
