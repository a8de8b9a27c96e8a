-- Rules for `simp` in any binary field. The field is a variable: a record of operations and a record of their laws.
-- `simp ring` sorts sums and products and cancels equal terms. `simp (ring, reciprocals)` also cancels an element
-- against its reciprocal, if the hypotheses say that the element is above 0 and below the size.
use Prim.Native.Nat.{ℕ, ◌<◌}
use mathlib.Core.Path.{◌≡◌, sym, ap, ◌∙◌}
use Rattle.field.specs.Binary.{Operations, BinaryField}

module _ {F : Operations} (L : BinaryField F) where
  pub add_comm : (a b : ℕ) → F.add a b ≡ F.add b a
  add_comm = L.add_comm

  pub add_assoc : (a b c : ℕ) → F.add (F.add a b) c ≡ F.add a (F.add b c)
  add_assoc = L.add_assoc

  pub add_left_comm : (a b c : ℕ) → F.add a (F.add b c) ≡ F.add b (F.add a c)
  add_left_comm a b c = sym (L.add_assoc a b c) ∙ ap (λ (x : ℕ). F.add x c) (L.add_comm a b) ∙ L.add_assoc b a c

  pub zero_add : (a : ℕ) → F.add 0 a ≡ a
  zero_add = L.zero_add

  pub add_zero : (a : ℕ) → F.add a 0 ≡ a
  add_zero a = L.add_comm a 0 ∙ L.zero_add a

  pub add_self : (a : ℕ) → F.add a a ≡ 0
  add_self = L.add_self

  -- a term that is added twice cancels
  pub twice : (a b : ℕ) → F.add a (F.add a b) ≡ b
  twice a b = sym (L.add_assoc a a b) ∙ ap (λ (x : ℕ). F.add x b) (L.add_self a) ∙ L.zero_add b

  pub mul_comm : (a b : ℕ) → F.mul a b ≡ F.mul b a
  mul_comm = L.mul_comm

  pub mul_assoc : (a b c : ℕ) → F.mul (F.mul a b) c ≡ F.mul a (F.mul b c)
  mul_assoc = L.mul_assoc

  pub mul_left_comm : (a b c : ℕ) → F.mul a (F.mul b c) ≡ F.mul b (F.mul a c)
  mul_left_comm a b c = sym (L.mul_assoc a b c) ∙ ap (λ (x : ℕ). F.mul x c) (L.mul_comm a b) ∙ L.mul_assoc b a c

  pub mul_add : (a b c : ℕ) → F.mul a (F.add b c) ≡ F.add (F.mul a b) (F.mul a c)
  mul_add = L.mul_add

  pub add_mul : (a b c : ℕ) → F.mul (F.add a b) c ≡ F.add (F.mul a c) (F.mul b c)
  add_mul a b c = simp (L.mul_comm (F.add a b) c, L.mul_add, L.mul_comm)

  pub mul_zero : (a : ℕ) → F.mul a 0 ≡ 0
  mul_zero a = ap (F.mul a) (sym (L.add_self 0)) ∙ L.mul_add a 0 0 ∙ L.add_self (F.mul a 0)

  pub zero_mul : (a : ℕ) → F.mul 0 a ≡ 0
  zero_mul a = L.mul_comm 0 a ∙ mul_zero a

  pub one_mul : (a : ℕ) → a < F.size → F.mul 1 a ≡ a
  one_mul a h = L.one_mul h

  pub mul_one : (a : ℕ) → a < F.size → F.mul a 1 ≡ a
  mul_one a h = L.mul_comm a 1 ∙ L.one_mul h

  -- 1 × (a × b) = a × b needs no bound on a and b, because every product is below the size
  pub one_mul_mul : (a b : ℕ) → F.mul 1 (F.mul a b) ≡ F.mul a b
  one_mul_mul a b = L.one_mul (L.mul_below a b)

  pub mul_one_mul : (a b : ℕ) → F.mul a (F.mul 1 b) ≡ F.mul a b
  mul_one_mul a b = mul_left_comm a 1 b ∙ one_mul_mul a b

  pub mul_mul_one : (a b : ℕ) → F.mul a (F.mul b 1) ≡ F.mul a b
  mul_mul_one a b = ap (F.mul a) (L.mul_comm b 1) ∙ mul_one_mul a b

  pub one_mul_inv : (a : ℕ) → F.mul 1 (F.inv a) ≡ F.inv a
  one_mul_inv a = L.one_mul (L.inv_below a)

pub ruleset ring = (
  add_comm,
  add_assoc,
  add_left_comm,
  zero_add,
  add_zero,
  add_self,
  twice,
  mul_comm,
  mul_assoc,
  mul_left_comm,
  mul_add,
  add_mul,
  mul_zero,
  zero_mul,
  one_mul,
  mul_one,
  one_mul_mul,
  mul_one_mul,
  mul_mul_one,
  one_mul_inv,
)

-- two factors whose product is 1 cancel, wherever sorting puts them: side by side, or with one or two factors between
-- them
module _ {F : Operations} (L : BinaryField F) (p q : ℕ) (e : F.mul p q ≡ 1) where
  over : (x u w : ℕ) → F.mul p u ≡ w → F.mul p (F.mul x u) ≡ F.mul x w
  over x u w h = mul_left_comm L p x u ∙ ap (F.mul x) h

  beside : (x : ℕ) → F.mul p (F.mul q x) ≡ F.mul 1 x
  beside x = sym (L.mul_assoc p q x) ∙ ap (λ (u : ℕ). F.mul u x) e

  one_between : (x : ℕ) → F.mul p (F.mul x q) ≡ F.mul 1 x
  one_between x = over x q 1 e ∙ L.mul_comm x 1

  two_between : (x y : ℕ) → F.mul p (F.mul x (F.mul y q)) ≡ F.mul x y
  two_between x y = over x (F.mul y q) (F.mul 1 y) (one_between y) ∙ mul_one_mul L x y

  one_between_more : (x y : ℕ) → F.mul p (F.mul x (F.mul q y)) ≡ F.mul x y
  one_between_more x y = over x (F.mul q y) (F.mul 1 y) (beside y) ∙ mul_one_mul L x y

  two_between_more : (x y z : ℕ) → F.mul p (F.mul x (F.mul y (F.mul q z))) ≡ F.mul x (F.mul y z)
  two_between_more x y z = over x (F.mul y (F.mul q z)) (F.mul y z) (one_between_more y z)

-- an element other than 0 and its reciprocal cancel, whichever of the two stands first
module _ {F : Operations} (L : BinaryField F) (a : ℕ) (pos : 0 < a) (below : a < F.size) where
  pub mul_inv : F.mul a (F.inv a) ≡ 1
  mul_inv = L.mul_inv pos below

  pub inv_mul : F.mul (F.inv a) a ≡ 1
  inv_mul = L.mul_comm (F.inv a) a ∙ mul_inv

  pub mul_inv_more : (x : ℕ) → F.mul a (F.mul (F.inv a) x) ≡ F.mul 1 x
  mul_inv_more = beside L a (F.inv a) mul_inv

  pub inv_mul_more : (x : ℕ) → F.mul (F.inv a) (F.mul a x) ≡ F.mul 1 x
  inv_mul_more = beside L (F.inv a) a inv_mul

  pub mul_1_inv : (x : ℕ) → F.mul a (F.mul x (F.inv a)) ≡ F.mul 1 x
  mul_1_inv = one_between L a (F.inv a) mul_inv

  pub inv_1_mul : (x : ℕ) → F.mul (F.inv a) (F.mul x a) ≡ F.mul 1 x
  inv_1_mul = one_between L (F.inv a) a inv_mul

  pub mul_2_inv : (x y : ℕ) → F.mul a (F.mul x (F.mul y (F.inv a))) ≡ F.mul x y
  mul_2_inv = two_between L a (F.inv a) mul_inv

  pub inv_2_mul : (x y : ℕ) → F.mul (F.inv a) (F.mul x (F.mul y a)) ≡ F.mul x y
  inv_2_mul = two_between L (F.inv a) a inv_mul

  pub mul_1_inv_more : (x y : ℕ) → F.mul a (F.mul x (F.mul (F.inv a) y)) ≡ F.mul x y
  mul_1_inv_more = one_between_more L a (F.inv a) mul_inv

  pub inv_1_mul_more : (x y : ℕ) → F.mul (F.inv a) (F.mul x (F.mul a y)) ≡ F.mul x y
  inv_1_mul_more = one_between_more L (F.inv a) a inv_mul

  pub mul_2_inv_more : (x y z : ℕ) → F.mul a (F.mul x (F.mul y (F.mul (F.inv a) z))) ≡ F.mul x (F.mul y z)
  mul_2_inv_more = two_between_more L a (F.inv a) mul_inv

  pub inv_2_mul_more : (x y z : ℕ) → F.mul (F.inv a) (F.mul x (F.mul y (F.mul a z))) ≡ F.mul x (F.mul y z)
  inv_2_mul_more = two_between_more L (F.inv a) a inv_mul

pub ruleset reciprocals = (
  mul_inv,
  inv_mul,
  mul_inv_more,
  inv_mul_more,
  mul_1_inv,
  inv_1_mul,
  mul_2_inv,
  inv_2_mul,
  mul_1_inv_more,
  inv_1_mul_more,
  mul_2_inv_more,
  inv_2_mul_more,
)
