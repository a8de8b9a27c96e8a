-- A binary field is a finite field in which a + a = 0. Its elements are 0 to size - 1. The operations are defined on
-- all numbers. A law names a bound only where it needs one.
use Rattle.std.specs.Prelude.{ℕ, ◌<◌, ◌≡◌}

-- the size, sum, product and reciprocal. Minus changes nothing, so subtraction needs no operation of its own
pub record Operations : Type 0 where
  pub size : ℕ
  pub add : ℕ → ℕ → ℕ
  pub mul : ℕ → ℕ → ℕ
  pub inv : ℕ → ℕ

-- the laws of a binary field, for any size and operations. A law without a bound holds of every number, even of one
-- that is not an element
pub record BinaryField (F : Operations) : Type 0 where
  pub zero_below : 0 < F.size
  pub one_below : 1 < F.size
  pub add_below : {a b : ℕ} → a < F.size → b < F.size → F.add a b < F.size
  pub mul_below : (a b : ℕ) → F.mul a b < F.size
  pub inv_below : (a : ℕ) → F.inv a < F.size
  pub add_comm : (a b : ℕ) → F.add a b ≡ F.add b a
  pub add_assoc : (a b c : ℕ) → F.add (F.add a b) c ≡ F.add a (F.add b c)
  pub zero_add : (a : ℕ) → F.add 0 a ≡ a
  pub add_self : (a : ℕ) → F.add a a ≡ 0
  pub mul_comm : (a b : ℕ) → F.mul a b ≡ F.mul b a
  pub mul_assoc : (a b c : ℕ) → F.mul (F.mul a b) c ≡ F.mul a (F.mul b c)
  pub mul_add : (a b c : ℕ) → F.mul a (F.add b c) ≡ F.add (F.mul a b) (F.mul a c)
  pub one_mul : {a : ℕ} → a < F.size → F.mul 1 a ≡ a
  pub mul_inv : {a : ℕ} → 0 < a → a < F.size → F.mul a (F.inv a) ≡ 1
