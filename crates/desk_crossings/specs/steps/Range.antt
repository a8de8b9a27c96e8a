-- How many numbers an accepted word has, and how large they are.
use Rattle.std.specs.Prelude.{ℕ, ◌≤◌, ◌≡◌, List, length, get_or, ℤ, pos, nat_abs}

-- 28 numbers from -10,000 to 10,000. Past the end of the list `get_or` gives 0.
pub record Numbers (numbers : List ℤ) : Type 0 where
  pub size : length numbers ≡ 28
  pub small : (k : ℕ) → nat_abs (get_or numbers k (pos 0)) ≤ 10000
