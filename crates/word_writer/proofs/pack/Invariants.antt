-- `word_writer::pack` meets its contract. The loop's invariant: the first k bytes of the output are those of the packed
-- codes, and the other bytes are unchanged.
use mathlib.Core.Path.{◌≡◌}
use mathlib.Core.List.{◌++◌}
use lib.ListN.{take, drop}
use Rattle.word.specs.Words.{packed}
use Rattle.word_writer.proofs.pack.Given as goal

abbrev pub invariant-loop-k : goal.invariant-loop-k
invariant-loop-k l = l.out ≡ take l.k (packed l.codes) ++ drop l.k l.initial.out
