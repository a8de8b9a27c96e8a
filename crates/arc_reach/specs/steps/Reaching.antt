-- What the search for an arc gives. Only contracts of functions that are no operation of the papers cite this
-- definition.
use Rattle.std.specs.Prelude.{ℕ, ◌+◌, ◌≤◌}
use Rattle.arc_reach.specs.declared.Arc.{Arc}

-- A part of a word of n codes around place k, with at most 512 letters, and two places of a strand. Which part it is
-- is left free, because relaying tests whether it is an arc.
abbrev pub ArcAround : ℕ → ℕ → Arc → Type 0
ArcAround n k arc =
    (arc.begin ≤ k) × (k ≤ arc.end) × (arc.end ≤ arc.begin + 512) × (arc.end ≤ n) × (arc.from ≤ 7) × (arc.to ≤ 7)
