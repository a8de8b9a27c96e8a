-- What a search for shorter words leaves. The word is the first n codes of a row.
use Rattle.std.specs.Prelude.{ℕ, ◌≤◌, List, take}
use Rattle.braid_arcs.specs.Arcs.{Relays}

-- Arcs of the word are laid anew, and the new word is the first r codes of the row. Which arcs, and how, is left free.
pub record Searched (n : ℕ) (before after : List ℕ) (r : ℕ) : Type 0 where
  pub not_longer : r ≤ n
  pub relays : Relays (take n before) (take r after)
