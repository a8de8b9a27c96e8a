-- What a run of letters of one generator does to three columns at once. These definitions are for the contracts of
-- functions that are no operation of the papers.
use Rattle.std.specs.Prelude.{ℕ, zero, suc, ◌+◌, ◌*◌, ◌-◌, ◌<◌, ◌≡◌, List, length, get_or}
use Rattle.base.specs.Packing.{Below}
use Rattle.field.specs.Binary.{Operations}
use Rattle.field.specs.Polynomial.{Degree, polynomials}
use Rattle.matrix_columns.specs.steps.Lanes.{columns_matrix}
use Rattle.matrix_columns.specs.steps.Constants.{Multiples, Constants}
use Rattle.pair.specs.Action.{Share, rows_on}
use Rattle.pair_powers.specs.declared.Gains.{Gains}

-- the share of a run: three multiples of the old own column
abbrev pub share_of_gains : Operations → Gains → Share
share_of_gains F n =
    record { before = λ x. F.mul n.left x; own = λ x. F.mul n.own x; after = λ x. F.mul n.right x }

-- what a run of no letters does
abbrev pub no_gains : Gains
no_gains = record { left = 0; own = 1; right = 0 }

-- A run with one more letter, which takes t: the column before gains t × the own column, the own column becomes t ×
-- itself, and the column after gains the own column.
unfoldable pub one_more : Operations → ℕ → Gains → Gains
one_more F t n =
    record { left = F.add n.left (F.mul t n.own); own = F.mul t n.own; right = F.add n.right n.own }

-- The p-th power of b_l²: its letters take s and t in turn, the T-values of the two labels.
unfoldable pub power_gains : Operations → ℕ → ℕ → ℕ → Gains
power_gains F s t zero = no_gains
power_gains F s t (suc p) = one_more F t (one_more F s (power_gains F s t p))

-- the constants of three numbers, eight places each, from place `at` on
pub record ThreeMultiples (F : Operations) (bits : ℕ) (table : List ℕ) (at : ℕ) (n : Gains) : Type 0 where
  pub left_there : Multiples F bits table at n.left
  pub own_there : Multiples F bits table (at + 8) n.own
  pub right_there : Multiples F bits table (at + 16) n.right

-- columns after a run with own column g, over every field of polynomials, for all gains whose constants stand at place
-- `at`
pub record RunOnColumns (bits : ℕ) (table : List ℕ) (at g : ℕ) (columns columns' : List ℕ) : Type 0 where
  pub nine : length columns' ≡ 9
  pub matrix_is : (p : ℕ) → Degree bits p → (n : Gains) → ThreeMultiples (polynomials bits p) bits table at n
      → columns_matrix columns'
      ≡ rows_on (polynomials bits p) (share_of_gains (polynomials bits p) n) g (columns_matrix columns)

-- r is the product of a number with the number whose constants stand at place `at`, over every field of polynomials
abbrev pub ProductIs : ℕ → List ℕ → ℕ → ℕ → ℕ → Type 0
ProductIs bits constants at number r =
    (p : ℕ) → Degree bits p → (t : ℕ) → Multiples (polynomials bits p) bits constants at t
    → r ≡ (polynomials bits p).mul t number

-- r is the run n with one more letter, which takes the number whose constants stand at place `at`, over every field of
-- polynomials
abbrev pub OneMoreIs : ℕ → List ℕ → ℕ → Gains → Gains → Type 0
OneMoreIs bits constants at n r =
    (p : ℕ) → Degree bits p → (t : ℕ) → Multiples (polynomials bits p) bits constants at t
    → r ≡ one_more (polynomials bits p) t n

-- the constants of three numbers are stored from place `at` on, and nothing before it has changed
pub record StoredThree (F : Operations) (bits at : ℕ) (n : Gains) (before after : List ℕ) : Type 0 where
  pub size : length after ≡ length before
  pub bytes : Below 256 after
  pub there : ThreeMultiples F bits after at n
  pub elsewhere : (i : ℕ) → i < at → get_or after i 0 ≡ get_or before i 0

-- What power k + 1 of level j does. Level j has the powers of the square of the generator with own column 6 - 2 j,
-- where label 7 stands at the next place.
abbrev pub level_gains : Operations → List ℕ → ℕ → ℕ → Gains
level_gains F ts j k = power_gains F (get_or ts (6 - 2 * j) 0) (get_or ts 7 0) (suc k)

-- the constants of the first n powers of a level stand in their places, and nothing before them has changed
pub record LevelFilled (F : Operations) (bits : ℕ) (constants : List ℕ) (j n : ℕ) (before after : List ℕ) : Type 0 where
  pub size : length after ≡ 384
  pub bytes : Below 256 after
  pub there : (ts : List ℕ) → Constants F bits ts constants → (k : ℕ) → k < n
      → ThreeMultiples F bits after (96 * j + 24 * k) (level_gains F ts j k)
  pub elsewhere : (i : ℕ) → i < 96 * j → get_or after i 0 ≡ get_or before i 0

-- the constants of the powers of the first n levels, for all T-values whose constants are given
pub record PowerTable (F : Operations) (bits : ℕ) (constants : List ℕ) (n : ℕ) (table : List ℕ) : Type 0 where
  pub size : length table ≡ 384
  pub bytes : Below 256 table
  pub there : (ts : List ℕ) → Constants F bits ts constants → (j k : ℕ) → j < n → k < 4
      → ThreeMultiples F bits table (96 * j + 24 * k) (level_gains F ts j k)
