-- Products of polynomials over two elements, reduced by a polynomial p of degree n, have the laws of a ring, for every
-- degree from 1 on and every p. One step, x times a, is linear. Therefore the multiplication by any b is linear too,
-- and it commutes with the step. Hence (c × a) × b = (c × b) × a. With 1 × a = a, this equation gives commutativity and
-- associativity. Products depend only on the n low bits of their factors, so only the law of 1 names a bound.
use Prim.Native.Nat.{ℕ, zero, suc, ◌+◌, ◌-◌, ◌*◌, ◌/◌, ◌%◌, ◌^◌, ◌≤◌, ◌<◌}
use mathlib.Core.Path.{◌≡◌, refl, sym, ap, ap₂, ◌∙◌}
use mathlib.Core.Bool.{Bool, true, false, cond}
use native.Mathlib.Nat.{zero-lt-suc, mod-one, mod-lt, mod-mod, mod-eq_of_lt, div-eq_of_lt, div-lt_iff_lt-mul, pow-suc}
use native.Mathlib.Omega.{arith}
use borrow.Author.Tests.{ltb-true, ltb-false}
use lib.Dec.{ltb, eqb}
use lib.Arith.{digits_div, mod-mul}
use lib.Pow.{pow_pos, pow_mono, pow-lt}
use lib.Bits.{bit_xor, xor_zero_r, xor_self, xor_lt, xor_shr, xor_mod, xor_shifted}
use Rattle.field.specs.Polynomial.{Degree, times_x, horner, times}
use Rattle.field.proofs.Xor.{by_digit, xor_swap, xor_double}

two_pos : 0 < 2
two_pos = zero-lt-suc 1

-- v if the digit t is 1, otherwise 0
abbrev pub pick : ℕ → ℕ → ℕ
pick t v = cond (eqb t 1) v 0

-- a map that keeps 0 commutes with `pick`
pick_map : (f : ℕ → ℕ) → f 0 ≡ 0 → (t v : ℕ) → f (pick t v) ≡ pick t (f v)
pick_map f z t v = go (eqb t 1)
  where
    go : (b : Bool) → f (cond b v 0) ≡ cond b (f v) 0
    go true = refl
    go false = z

pick_sum : (t v w : ℕ) → pick t (bit_xor v w) ≡ bit_xor (pick t v) (pick t w)
pick_sum t v w = go (eqb t 1)
  where
    go : (b : Bool) → cond b (bit_xor v w) 0 ≡ bit_xor (cond b v 0) (cond b w 0)
    go true = refl
    go false = refl

pick_below : (t v m : ℕ) → 0 < m → v < m → pick t v < m
pick_below t v m p h = go (eqb t 1)
  where
    go : (b : Bool) → cond b v 0 < m
    go true = h
    go false = p

sum_pick : (v s t : ℕ) → s < 2 → t < 2 → pick (bit_xor s t) v ≡ bit_xor (pick s v) (pick t v)
sum_pick v s t hs ht =
    by_digit (λ (x : ℕ). pick (bit_xor x t) v ≡ bit_xor (pick x v) (pick t v)) refl
    (by_digit (λ (y : ℕ). pick (bit_xor 1 y) v ≡ bit_xor v (pick y v)) (sym (xor_zero_r v)) (sym (xor_self v)) t ht)
    s hs

module _ {n p : ℕ} (degree : Degree n p) where
  one_below_size : 1 < 2 ^ n
  one_below_size = pow-lt degree.positive

  -- the coefficient of x^n in a polynomial of degree at most n: 0 if the number is below 2^n, otherwise 1
  low_top : (c : ℕ) → c < 2 ^ n → c / 2 ^ n ≡ 0
  low_top c h = div-eq_of_lt h

  high_top : (c : ℕ) → 2 ^ n ≤ c → c < 2 ^ suc n → c / 2 ^ n ≡ 1
  high_top c l h =
      let e : c ≡ 1 * 2 ^ n + (c - 2 ^ n) = omega arith in
      let r : c - 2 ^ n < 2 ^ n = omega arith in
      ap (λ (x : ℕ). x / 2 ^ n) e ∙ digits_div 1 r

  pub top_below : (c : ℕ) → c < 2 ^ suc n → c / 2 ^ n < 2
  top_below c h = let b : c < 2 * 2 ^ n = omega arith in (div-lt_iff_lt-mul (pow_pos n)).1 b

  -- ---- the step, x times a

  pub step_is : (a : ℕ) → a < 2 ^ n → times_x n p a ≡ bit_xor (a * 2) (pick (a * 2 / 2 ^ n) p)
  unfolding times_x
  step_is a h = go (ltb (a * 2) (2 ^ n)) refl
    where
      go : (t : Bool) → ltb (a * 2) (2 ^ n) ≡ t
          → cond t (a * 2) (bit_xor (a * 2) p) ≡ bit_xor (a * 2) (pick (a * 2 / 2 ^ n) p)
      go true e = rw (low_top (a * 2) (ltb-true (a * 2) (2 ^ n) e), xor_zero_r (a * 2))
      go false e = rw (high_top (a * 2) (ltb-false (a * 2) (2 ^ n) e) (omega arith))

  pub step_below : (a : ℕ) → a < 2 ^ n → times_x n p a < 2 ^ n
  step_below a h =
      let t = a * 2 / 2 ^ n in
      let e : times_x n p a / 2 ^ n ≡ 0 =
      ap (λ (x : ℕ). x / 2 ^ n) (step_is a h) ∙ xor_shr (a * 2) (pick t p) n
      ∙ ap (bit_xor t)
      (pick_map (λ (x : ℕ). x / 2 ^ n) (low_top 0 (pow_pos n)) t p
      ∙ ap (pick t) (high_top p degree.from degree.to))
      ∙ by_digit (λ (x : ℕ). bit_xor x (pick x 1) ≡ 0) refl refl t (top_below (a * 2) (omega arith)) in
      let b : times_x n p a < 1 * 2 ^ n = (div-lt_iff_lt-mul (pow_pos n)).0 (omega arith) in
      omega arith

  step_sum : (a b : ℕ) → a < 2 ^ n → b < 2 ^ n → times_x n p (bit_xor a b) ≡ bit_xor (times_x n p a) (times_x n p b)
  step_sum a b ha hb =
      let s = a * 2 / 2 ^ n in
      let t = b * 2 / 2 ^ n in
      step_is (bit_xor a b) (xor_lt n a b ha hb)
      ∙ ap₂ bit_xor (xor_double a b)
      (ap (λ (x : ℕ). pick (x / 2 ^ n) p) (xor_double a b) ∙ ap (λ (x : ℕ). pick x p) (xor_shr (a * 2) (b * 2) n)
      ∙ sum_pick p s t (top_below (a * 2) (omega arith)) (top_below (b * 2) (omega arith)))
      ∙ xor_swap (a * 2) (b * 2) (pick s p) (pick t p)
      ∙ sym (ap₂ bit_xor (step_is a ha) (step_is b hb))

  step_zero : times_x n p 0 ≡ 0
  step_zero = step_is 0 (pow_pos n) ∙ ap (λ (x : ℕ). pick x p) (low_top 0 (pow_pos n))

  -- if the degree stays below n, the step doubles the number
  step_double : (a : ℕ) → a * 2 < 2 ^ n → times_x n p a ≡ a * 2
  step_double a h =
      step_is a (omega arith) ∙ ap (λ (x : ℕ). bit_xor (a * 2) (pick x p)) (low_top (a * 2) h) ∙ xor_zero_r (a * 2)

  -- ---- Horner's rule over the k low bits of b

  horner_below : (a k b : ℕ) → horner n p a k b < 2 ^ n
  unfolding horner
  horner_below a zero b = pow_pos n
  horner_below a (suc k) b =
      xor_lt n (times_x n p (horner n p a k (b / 2))) (pick (b % 2) (a % 2 ^ n))
      (step_below (horner n p a k (b / 2)) (horner_below a k (b / 2)))
      (pick_below (b % 2) (a % 2 ^ n) (2 ^ n) (pow_pos n) (mod-lt a (pow_pos n)))

  -- only the n low bits of a count
  horner_low : (a k b : ℕ) → horner n p (a % 2 ^ n) k b ≡ horner n p a k b
  unfolding horner
  horner_low a zero b = refl
  horner_low a (suc k) b =
      ap₂ (λ (x y : ℕ). bit_xor (times_x n p x) (pick (b % 2) y)) (horner_low a k (b / 2)) (mod-mod a (2 ^ n))

  horner_sum : (a c k b : ℕ) → horner n p (bit_xor a c) k b ≡ bit_xor (horner n p a k b) (horner n p c k b)
  unfolding horner
  horner_sum a c zero b = refl
  horner_sum a c (suc k) b =
      let u = horner n p a k (b / 2) in
      let v = horner n p c k (b / 2) in
      let t = b % 2 in
      ap₂ bit_xor
      (ap (times_x n p) (horner_sum a c k (b / 2)) ∙ step_sum u v (horner_below a k (b / 2)) (horner_below c k (b / 2)))
      (ap (pick t) (xor_mod a c n) ∙ pick_sum t (a % 2 ^ n) (c % 2 ^ n))
      ∙ xor_swap (times_x n p u) (times_x n p v) (pick t (a % 2 ^ n)) (pick t (c % 2 ^ n))

  horner_zero : (k b : ℕ) → horner n p 0 k b ≡ 0
  horner_zero k b = horner_sum 0 0 k b ∙ xor_self (horner n p 0 k b)

  horner_step : (a k b : ℕ) → a < 2 ^ n → horner n p (times_x n p a) k b ≡ times_x n p (horner n p a k b)
  unfolding horner
  horner_step a zero b h = sym step_zero
  horner_step a (suc k) b h =
      let u = horner n p a k (b / 2) in
      let t = b % 2 in
      ap₂ bit_xor (ap (times_x n p) (horner_step a k (b / 2) h))
      (ap (pick t) (mod-eq_of_lt (step_below a h) ∙ ap (times_x n p) (sym (mod-eq_of_lt h)))
      ∙ sym (pick_map (times_x n p) step_zero t (a % 2 ^ n)))
      ∙ sym (step_sum (times_x n p u) (pick t (a % 2 ^ n)) (step_below u (horner_below a k (b / 2)))
      (pick_below t (a % 2 ^ n) (2 ^ n) (pow_pos n) (mod-lt a (pow_pos n))))

  -- Horner's rule from the lowest bit of b: x times a is multiplied by the rest of b, and a is added if the lowest bit
  -- is 1
  pub horner_first : (a k b : ℕ) → a < 2 ^ n
      → horner n p a (suc k) b ≡ bit_xor (horner n p (times_x n p a) k (b / 2)) (pick (b % 2) a)
  unfolding horner
  horner_first a k b h = ap₂ bit_xor (sym (horner_step a k (b / 2) h)) (ap (pick (b % 2)) (mod-eq_of_lt h))

  -- c may be multiplied by two numbers in either order
  horner_past : (c k a j b : ℕ) → horner n p (horner n p c k a) j b ≡ horner n p (horner n p c j b) k a
  unfolding horner
  horner_past c zero a j b = horner_zero j b
  horner_past c (suc k) a j b =
      let u = horner n p c k (a / 2) in
      let t = a % 2 in
      horner_sum (times_x n p u) (pick t (c % 2 ^ n)) j b
      ∙ ap₂ bit_xor (horner_step u j b (horner_below c k (a / 2)) ∙ ap (times_x n p) (horner_past c k (a / 2) j b))
      (pick_map (λ (x : ℕ). horner n p x j b) (horner_zero j b) t (c % 2 ^ n)
      ∙ ap (pick t) (horner_low c j b ∙ sym (mod-eq_of_lt (horner_below c j b))))

  -- 1 times the k low bits of b is these k bits
  horner_one : (k b : ℕ) → k ≤ n → horner n p 1 k b ≡ b % 2 ^ k
  unfolding horner
  horner_one zero b h = sym (mod-one b)
  horner_one (suc k) b h =
      let y = b / 2 % 2 ^ k in
      let l : y < 2 ^ k = mod-lt (b / 2) (pow_pos k) in
      let m : 2 ^ suc k ≤ 2 ^ n = pow_mono h in
      let o : 1 < 2 ^ n = one_below_size in
      ap₂ (λ (u v : ℕ). bit_xor (times_x n p u) (pick (b % 2) v)) (horner_one k (b / 2) (omega arith)) (mod-eq_of_lt o)
      ∙ ap₂ bit_xor (step_double y (omega arith))
      (by_digit (λ (x : ℕ). pick x 1 ≡ x) refl refl (b % 2) (mod-lt b two_pos))
      ∙ xor_shifted y 1 (b % 2) (mod-lt b two_pos)
      ∙ sym (mod-mul b (pow_pos k) two_pos)
      ∙ ap (λ (x : ℕ). b % x) (sym (pow-suc 2 k))

  -- ---- the laws

  pub times_below : (a b : ℕ) → times n p a b < 2 ^ n
  unfolding times
  times_below a b = horner_below a n b

  -- a product depends only on the n low bits of its first factor
  pub times_low : (a b : ℕ) → times n p (a % 2 ^ n) b ≡ times n p a b
  unfolding times
  times_low a b = horner_low a n b

  one_times_low : (a : ℕ) → times n p 1 a ≡ a % 2 ^ n
  unfolding times
  one_times_low a = horner_one n a (omega arith)

  pub one_times : (a : ℕ) → a < 2 ^ n → times n p 1 a ≡ a
  one_times a h = one_times_low a ∙ mod-eq_of_lt h

  pub zero_times : (b : ℕ) → times n p 0 b ≡ 0
  unfolding times
  zero_times b = horner_zero n b

  -- (x × a) × b = x × (a × b)
  pub times_step : (a b : ℕ) → a < 2 ^ n → times n p (times_x n p a) b ≡ times_x n p (times n p a b)
  unfolding times
  times_step a b h = horner_step a n b h

  pub times_right_comm : (c a b : ℕ) → times n p (times n p c a) b ≡ times n p (times n p c b) a
  unfolding times
  times_right_comm c a b = horner_past c n a n b

  pub times_comm : (a b : ℕ) → times n p a b ≡ times n p b a
  times_comm a b =
      sym (times_low a b) ∙ ap (λ (x : ℕ). times n p x b) (sym (one_times_low a)) ∙ times_right_comm 1 a b
      ∙ ap (λ (x : ℕ). times n p x a) (one_times_low b) ∙ times_low b a

  pub times_assoc : (a b c : ℕ) → times n p (times n p a b) c ≡ times n p a (times n p b c)
  times_assoc a b c =
      ap (λ (x : ℕ). times n p x c) (times_comm a b) ∙ times_right_comm b a c ∙ times_comm (times n p b c) a

  sum_times : (a b c : ℕ) → times n p (bit_xor a b) c ≡ bit_xor (times n p a c) (times n p b c)
  unfolding times
  sum_times a b c = horner_sum a b n c

  pub times_sum : (a b c : ℕ) → times n p a (bit_xor b c) ≡ bit_xor (times n p a b) (times n p a c)
  times_sum a b c = times_comm a (bit_xor b c) ∙ sum_times b c a ∙ ap₂ bit_xor (times_comm b a) (times_comm c a)

  pub times_low_both : (a b : ℕ) → times n p a b ≡ times n p (a % 2 ^ n) (b % 2 ^ n)
  times_low_both a b =
      let l = a % 2 ^ n in
      sym (times_low a b) ∙ times_comm l b ∙ sym (times_low b l) ∙ times_comm (b % 2 ^ n) l

  -- the product with x^0 is the n low bits of a. The product with each further power of x below x^n is x times the
  -- product with the power before it
  pub times_one : (a : ℕ) → times n p a 1 ≡ a % 2 ^ n
  times_one a = times_comm a 1 ∙ one_times_low a

  pub times_next : (a i : ℕ) → suc i < n → times n p a (2 ^ suc i) ≡ times_x n p (times n p a (2 ^ i))
  unfolding times
  times_next a i h =
      let e : 2 ^ suc i ≡ 2 ^ i * 2 = pow-suc 2 i in
      let l : 2 ^ suc i < 2 ^ n = pow-lt h in
      let b : 2 ^ i < 2 ^ n = omega arith in
      times_comm a (2 ^ suc i)
      ∙ ap (λ (x : ℕ). horner n p x n a) (e ∙ sym (step_double (2 ^ i) (omega arith)))
      ∙ horner_step (2 ^ i) n a b
      ∙ ap (times_x n p) (times_comm (2 ^ i) a)
