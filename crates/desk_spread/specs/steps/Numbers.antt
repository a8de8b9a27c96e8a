-- How the lines are written, for private contracts.
use Rattle.std.specs.Prelude.{ℕ, ◌≤◌, ◌^◌, ◌≡◌, List, length, get_or}

-- 24 numbers, each at most 6 to the power of 12, so of at most ten digits. Past the end of the list `get_or` gives 0.
pub record Shown (numbers : List ℕ) : Type 0 where
  pub size : length numbers ≡ 24
  pub small : (k : ℕ) → get_or numbers k 0 ≤ 6 ^ 12
