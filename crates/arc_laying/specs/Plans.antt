-- Plans for an arc. A plan has a place of the strand for each letter of the part.
use Rattle.std.specs.Prelude.{ℕ, ◌≤◌, ◌<◌, Bool, List, [], ◌∷◌, length, take, get_or}
use Rattle.braid_arcs.specs.Arcs.{beside, Arc}

-- A letter c of the part, with the strand at place x, and the plan's place t for it. If c is the strand's own letter, t
-- may be any number. If c is a letter of two other strands, the strand can stand at place t: t is at most 7, and is not
-- between these two strands.
pub data Placed (under : Bool) (x c t : ℕ) : Type 0 where
  own : {y : ℕ} → Arc under x (c ∷ []) y [] → Placed under x c t
  aside : {d : ℕ} → Arc under x (c ∷ []) x (d ∷ []) → Arc under t (beside d t ∷ []) t (d ∷ []) → Placed under x c t

-- The part's first k letters are an arc of a strand from place p, and the plan has a right place for the letter after
-- them.
pub record PlacedAt (under : Bool) (p : ℕ) (part plan : List ℕ) (k : ℕ) : Type 0 where
  pub strand : ℕ
  pub others : List ℕ
  pub before : Arc under p (take k part) strand others
  pub placed : Placed under strand (get_or part k 0) (get_or plan k 0)

-- a plan for an arc of a strand from place p: it has a right place for each letter
pub record Plan (under : Bool) (p : ℕ) (part plan : List ℕ) : Type 0 where
  pub long : length part ≤ length plan
  pub places : (k : ℕ) → k < length part → PlacedAt under p part plan k
