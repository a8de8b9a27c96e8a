-- `arc_reach::back` stays inside the word, and within 256 letters of place k.
use Prim.Native.Nat.{◌≤◌}
use Rattle.arc_reach.proofs.back.Given as goal

abbrev pub invariant-loop-at : goal.invariant-loop-at
invariant-loop-at l = l.strand ≤ 7
