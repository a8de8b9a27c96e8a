-- `word_reduction::pushes` meets its contract. The loop's invariant: the stack holds the freely reduced word of the n
-- codes that it had at first and the codes pushed so far.
use Prim.Native.Nat.{◌+◌, ◌≤◌}
use mathlib.Core.Path.{◌≡◌}
use mathlib.Core.List.{◌++◌}
use lib.ListN.{take}
use Rattle.word.specs.Reduction.{reduced}
use Rattle.word_reduction.proofs.pushes.Given as goal

abbrev pub invariant-loop-c : goal.invariant-loop-c
invariant-loop-c l =
    (l.count ≤ l.n + l.c-index)
    × (take l.count l.stack ≡ reduced (take l.n l.initial.stack ++ take l.c-index l.codes))
