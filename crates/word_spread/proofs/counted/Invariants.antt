-- `word_spread::counted` meets its contract. The loop's invariant: the numbers are those of the words of n letters.
use Rattle.word_spread.specs.steps.Counting.{Counted}
use Rattle.word_spread.proofs.counted.Given as goal

abbrev pub invariant-loop-n : goal.invariant-loop-n
invariant-loop-n l = Counted l._n l.counts
