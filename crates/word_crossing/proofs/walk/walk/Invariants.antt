-- `word_crossing::walk::walk` meets its contract. The loop's invariant: i letters of each half are counted, and the
-- front's other letters lead to the list that the whole front leaves.
use Rattle.word_crossing.proofs.HalfLaws.{Halving}
use Rattle.word_crossing.proofs.walk.walk.Given as goal

abbrev pub invariant-loop-i : goal.invariant-loop-i
invariant-loop-i l = Halving l.codes l.half l.middle l.labels l.first l.second l.i
