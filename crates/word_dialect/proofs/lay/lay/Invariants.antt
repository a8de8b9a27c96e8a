-- `word_dialect::lay::lay` meets its contract. The loop's invariant: after what was before place `at`, the row holds
-- the first i entries of the code.
use Prim.Native.Nat.{◌+◌, ◌*◌}
use mathlib.Core.Path.{◌≡◌}
use mathlib.Core.List.{◌++◌}
use lib.ListN.{take}
use Rattle.base.specs.Digits.{part}
use Rattle.word_dialect.proofs.lay.lay.Given as goal

abbrev pub invariant-loop-i : goal.invariant-loop-i
invariant-loop-i l = take (l.at + l.i) l.row ≡ take l.at l.initial.row ++ part (8 * l.c) l.i l.table
