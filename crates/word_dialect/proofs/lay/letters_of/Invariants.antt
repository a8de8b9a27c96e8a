-- `word_dialect::lay::letters_of` meets its contract. The loop's invariant: the number is that of the runs of the
-- codes so far.
use Prim.Native.Nat.{◌*◌, ◌≤◌}
use mathlib.Core.Path.{◌≡◌}
use lib.ListN.{length, take}
use Rattle.word_dialect.specs.steps.Table.{laid}
use Rattle.word_dialect.proofs.lay.letters_of.Given as goal

abbrev pub invariant-loop-c : goal.invariant-loop-c
invariant-loop-c l =
    (l.letters ≤ 7 * l.c-index) × (l.letters ≡ length (laid l.table (take l.c-index l.codes)))
