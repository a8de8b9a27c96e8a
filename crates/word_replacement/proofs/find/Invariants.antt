-- `word_replacement::find` meets its contract. The loop's invariant: the pair ends at none of the places before k.
use Prim.Native.Nat.{◌+◌, ◌-◌}
use mathlib.Core.Path.{◌≡◌}
use lib.ListN.{drop}
use Rattle.word_replacement.specs.steps.Rows.{before}
use Rattle.word_replacement.proofs.find.Given as goal

abbrev pub invariant-loop-k : goal.invariant-loop-k
invariant-loop-k l = l.k - 1 + before l.c l.d (drop (l.k - 1) l.rows) ≡ before l.c l.d l.rows
