-- `key::whole_matrix` meets its contract. The loop's invariant: the first k entries are in their places, and all other
-- entries are zero.
use Rattle.key.specs.steps.Filling.{EntriesPlaced}
use Rattle.key.proofs.whole_matrix.Given as goal

abbrev pub invariant-loop-k : goal.invariant-loop-k
invariant-loop-k l = EntriesPlaced l.all l.k l.m
