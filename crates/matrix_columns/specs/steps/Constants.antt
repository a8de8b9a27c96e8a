-- The constants of a word: the numbers that columns are multiplied by. They are computed once for each T-value and its
-- reciprocal.
use Rattle.std.specs.Prelude.{ℕ, ◌+◌, ◌*◌, ◌^◌, ◌<◌, ◌≤◌, ◌≡◌, List, ◌⊎◌, length, get_or}
use Rattle.base.specs.Packing.{Below}
use Rattle.field.specs.Binary.{Operations}
use Rattle.field.specs.Polynomial.{polynomials, Degree}

-- from place `at` on, the list holds the products of t and x^i, for each bit i of an entry
abbrev pub Multiples : Operations → ℕ → List ℕ → ℕ → ℕ → Type 0
Multiples F bits cs at t = (i : ℕ) → i < bits → get_or cs (at + i) 0 ≡ F.mul t (2 ^ i)

-- from place 8 a on, the list holds the products of label a's T-value; from place 64 + 8 a on, those of its reciprocal
pub record Constants (F : Operations) (bits : ℕ) (ts cs : List ℕ) : Type 0 where
  pub bytes : Below 256 cs
  pub of_value : (a : ℕ) → a < 8 → Multiples F bits cs (8 * a) (get_or ts a 0)
  pub of_reciprocal : (a : ℕ) → a < 8 → Multiples F bits cs (64 + 8 * a) (F.inv (get_or ts a 0))

-- P holds over every field of polynomials whose elements have `bits` bits, for all T-values whose constants are cs
abbrev pub OverFields : ℕ → List ℕ → (Operations → List ℕ → Type 0) → Type 0
OverFields bits cs P =
    (p : ℕ) → Degree bits p → (ts : List ℕ) → Constants (polynomials bits p) bits ts cs → P (polynomials bits p) ts

-- A step of the code that computes the constants. Only contracts of functions that are no operation of the papers cite
-- it. From place `at` on, the list holds the products of a number with the first n powers of x. Before place `at` and
-- from place `at + bits` on, the list is unchanged
pub record Filled (F : Operations) (bits number at n : ℕ) (before after : List ℕ) : Type 0 where
  pub size : length after ≡ length before
  pub bytes : Below 256 after
  pub there : Multiples F n after at number
  pub elsewhere : (k : ℕ) → (k < at) ⊎ (at + bits ≤ k) → get_or after k 0 ≡ get_or before k 0

-- A step of the code that computes the constants. Only private contracts cite it. From place `from` on, eight places
-- each, the list holds the products of the first n of eight numbers. Before place `from` and from place `from + 64` on,
-- the list is unchanged
pub record AllFilled (F : Operations) (bits : ℕ) (numbers : List ℕ) (from n : ℕ) (before after : List ℕ) : Type 0 where
  pub size : length after ≡ 128
  pub bytes : Below 256 after
  pub there : (a : ℕ) → a < n → Multiples F bits after (from + 8 * a) (get_or numbers a 0)
  pub elsewhere : (k : ℕ) → (k < from) ⊎ (from + 64 ≤ k) → get_or after k 0 ≡ get_or before k 0

-- rs holds the reciprocals of the eight T-values
abbrev pub Reciprocals : Operations → List ℕ → List ℕ → Type 0
Reciprocals F ts rs = (a : ℕ) → a < 8 → get_or rs a 0 ≡ F.inv (get_or ts a 0)
