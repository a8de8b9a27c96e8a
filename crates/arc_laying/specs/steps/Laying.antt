-- How far a new part is laid. Only private contracts cite these definitions.
use Rattle.std.specs.Prelude.{ℕ, ◌+◌, ◌≤◌, ◌<◌, ◌≡◌, Bool, true, false, List, length, take}
use Rattle.arc_laying.specs.declared.Laying.{Laying}
use Rattle.braid_arcs.specs.Arcs.{Arc}
use Rattle.arc_laying.specs.Plans.{PlacedAt}

-- The letters read from the part and the letters written are arcs with the same start and the same other letters.
pub record LaidSoFar (under : Bool) (p : ℕ) (part out : List ℕ) (read written old new : ℕ) : Type 0 where
  pub others : List ℕ
  pub was : Arc under p (take read part) old others
  pub is : Arc under p (take written out) new others

-- what holds before a turn
pub record BeforeTurn (under : Bool) (p : ℕ) (part out : List ℕ) (s : Laying) : Type 0 where
  pub reads : s.read ≤ length part
  pub writes : s.written ≤ length part
  pub room : length part ≤ length out
  pub laid : LaidSoFar under p part out s.read s.written s.old s.new

-- A turn that is not refused leads from s to r, and more letters are read or written.
pub record AfterTurn (under : Bool) (p : ℕ) (part out : List ℕ) (s r : Laying) : Type 0 where
  pub reads : r.read ≤ length part
  pub writes : r.written ≤ length part
  pub further : s.read + s.written < r.read + r.written
  pub laid : LaidSoFar under p part out r.read r.written r.old r.new

-- the plan has right places for the letters that a turn reads
abbrev pub Follows : Bool → ℕ → List ℕ → List ℕ → Laying → Laying → Type 0
Follows under p part plan s r = (k : ℕ) → s.read ≤ k → k < r.read → PlacedAt under p part plan k

-- something is left to do: a letter to read, or a step of the strand to its end
abbrev pub Unfinished : ℕ → Laying → Type 0
Unfinished n s = s.read ≡ n → s.new ≡ s.old → ⊥

-- is there a turn to make? Not if nothing is left to do
pub record GoesOn (n : ℕ) (s : Laying) (r : Bool) : Type 0 where
  pub yes : r ≡ true → Unfinished n s
  pub stop : r ≡ false → (s.read ≡ n) × (s.new ≡ s.old)
