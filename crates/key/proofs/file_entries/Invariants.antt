-- `key::file_entries` meets its contract. The loop's invariant: the places before k hold the file's entries.
use Prim.Native.Nat.{ℕ, ◌<◌}
use mathlib.Core.Path.{◌≡◌}
use lib.ListN.{length, get_or}
use Rattle.key.specs.steps.Filling.{file_entry}
use Rattle.key.proofs.file_entries.Given as goal

abbrev pub invariant-loop-k : goal.invariant-loop-k
invariant-loop-k l = (length l.entries ≡ 57) × ((j : ℕ) → j < l.k → get_or l.entries j 0 ≡ file_entry l.matrix j)
