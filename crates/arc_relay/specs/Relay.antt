-- An arc laid anew in a word. The word is the first n codes of a row.
use Rattle.std.specs.Prelude.{ℕ, ◌+◌, ◌-◌, ◌≤◌, ◌≡◌, Bool, List, ◌++◌, ◌⊎◌, length, take}
use Rattle.base.specs.Digits.{part}
use Rattle.braid_arcs.specs.Arcs.{Relaid}
use Rattle.arc_laying.specs.Plans.{Plan}

-- The letters at places b to e - 1 are an arc of a strand that begins at place p, and the plan is a plan for this arc.
-- The arc is laid anew: a new part replaces it, and the letters after it move up. The new word is the first r codes of
-- the row.
pub record Replaced (n b e p : ℕ) (under : Bool) (plan before after : List ℕ) (r : ℕ) : Type 0 where
  pub inside : (b ≤ e) × (e ≤ n) × (n ≤ length before)
  pub new : List ℕ
  pub relaid : Relaid under p (part b (e - b) before) new
  pub planned : Plan under p (part b (e - b) before) plan
  pub letters : r + (e - b) ≡ n + length new
  pub word : take r after ≡ take b before ++ (new ++ part e (n - e) before)

-- Relaying changes nothing, or it lays an arc anew. So it changes nothing if these letters are no arc of this strand,
-- or if the plan is no plan for the arc.
abbrev pub Relayed : ℕ → ℕ → ℕ → ℕ → Bool → List ℕ → List ℕ → List ℕ → ℕ → Type 0
Relayed n b e p under plan before after r =
    ((r ≡ n) × (after ≡ before)) ⊎ Replaced n b e p under plan before after r
