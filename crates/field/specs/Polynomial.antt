-- A polynomial over two elements is a number: bit k is the coefficient of x^k. Products are reduced by a polynomial p
-- of degree n.
use Rattle.std.specs.Prelude.{ℕ, zero, suc, ◌*◌, ◌/◌, ◌%◌, ◌^◌, ◌≤◌, ◌<◌, Bool, cond, eqb, ltb}
use Rattle.std.specs.Int.Bits.{bit_xor}
use Rattle.field.specs.Binary.{Operations}

-- p is a polynomial of degree n, and n is at least 1
pub record Degree (n p : ℕ) : Type 0 where
  pub positive : 0 < n
  pub from : 2 ^ n ≤ p
  pub to : p < 2 ^ suc n

-- x times a, reduced by p: if the degree reaches n, p is subtracted, which is exclusive or
unfoldable pub times_x : ℕ → ℕ → ℕ → ℕ
times_x n p a = cond (ltb (a * 2) (2 ^ n)) (a * 2) (bit_xor (a * 2) p)

-- the product of a and the k low bits of b, by Horner's rule: a × b = x (a × (b / x)) + b₀ a, where b₀ is the lowest
-- bit of b. Only the n low bits of a count
unfoldable pub horner : ℕ → ℕ → ℕ → ℕ → ℕ → ℕ
horner n p a zero b = 0
horner n p a (suc k) b = bit_xor (times_x n p (horner n p a k (b / 2))) (cond (eqb (b % 2) 1) (a % 2 ^ n) 0)

-- the product of the n low bits of a and the n low bits of b, reduced by p
unfoldable pub times : ℕ → ℕ → ℕ → ℕ → ℕ
times n p a b = horner n p a n b

-- the first of the k numbers i, i + 1, .. that passes the test; 0 if none passes
unfoldable pub first_or_zero : (ℕ → Bool) → ℕ → ℕ → ℕ
first_or_zero f i zero = 0
first_or_zero f i (suc k) = cond (f i) i (first_or_zero f (suc i) k)

-- the reciprocal of a: the element whose product with a is 1; 0 if there is none
unfoldable pub reciprocal_of : ℕ → ℕ → ℕ → ℕ
reciprocal_of n p a = first_or_zero (λ b. eqb (times n p a b) 1) 0 (2 ^ n)

-- the operations on the polynomials of degree below n, reduced by p. The elements are 0 to 2^n - 1, and addition is
-- exclusive or
abbrev pub polynomials : ℕ → ℕ → Operations
polynomials n p = record { size = 2 ^ n; add = bit_xor; mul = times n p; inv = reciprocal_of n p }
