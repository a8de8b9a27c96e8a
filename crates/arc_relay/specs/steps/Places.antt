-- The places that relaying can take. Only a private contract cites this definition.
use Rattle.std.specs.Prelude.{ℕ, ◌-◌, ◌≤◌, ◌<◌}

-- b and e are places of a word of n codes in a row, p is a place of the strand, and there is room for the part
pub record Fits (n b e p row room : ℕ) : Type 0 where
  pub start : b ≤ e
  pub end : e ≤ n
  pub in_row : n ≤ row
  pub place : p ≤ 7
  pub fits : e - b ≤ room
  pub few : room < 65536
