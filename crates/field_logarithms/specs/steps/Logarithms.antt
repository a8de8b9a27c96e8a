-- Products by logarithms: what a table of logarithms and powers gives to the loops that it is lent to.
use Rattle.std.specs.Prelude.{ℕ, ◌+◌, ◌*◌, ◌<◌, ◌≤◌, ◌≡◌, List, length, get_or}
use Rattle.field.specs.Fields.{operations}
use Rattle.field.specs.declared.Field.{Field}

-- the product of two bytes stands at place 256 plus the logarithms of the two bytes. That place is in the table for any
-- two bytes. The entries from 256 on are bytes
pub record ProductsBy (f : Field) (table : List ℕ) : Type 0 where
  pub near : (a : ℕ) → a < 256 → 256 + 2 * get_or table a 0 < length table
  pub byte : (k : ℕ) → 256 ≤ k → get_or table k 0 < 256
  pub product : (a b : ℕ) → a < 256 → b < 256
      → get_or table (256 + (get_or table a 0 + get_or table b 0)) 0 ≡ (operations f).mul a b

-- i is the logarithm of the byte a, by a table
pub record LogarithmOf (table : List ℕ) (a i : ℕ) : Type 0 where
  pub byte : a < 256
  pub entry : i ≡ get_or table a 0

-- the list holds the logarithms of y 0, y 1, .., y (n - 1)
abbrev pub LogarithmsOf : List ℕ → (ℕ → ℕ) → ℕ → List ℕ → Type 0
LogarithmsOf table y n logs = (j : ℕ) → j < n → LogarithmOf table (y j) (get_or logs j 0)
