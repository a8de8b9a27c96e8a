-- `word_replacement::letters_from` meets its contract. The loop's invariant: no filler stands from `from` up to place
-- k.
use Prim.Native.Nat.{◌+◌}
use mathlib.Core.Path.{◌≡◌}
use lib.ListN.{drop}
use Rattle.word_replacement.specs.steps.Rows.{filled}
use Rattle.word_replacement.proofs.letters_from.Given as goal

abbrev pub invariant-loop-k : goal.invariant-loop-k
invariant-loop-k l = l.k + filled (drop l.k l.rows) ≡ l.from + filled (drop l.from l.rows)
