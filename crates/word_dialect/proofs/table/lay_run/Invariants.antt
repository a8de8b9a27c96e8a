-- `word_dialect::table::lay_run` meets its contract. The loop's invariant: the first i letters of the run are
-- written, `code` is the next one, and the entries before the run are unchanged.
use Prim.Native.Nat.{ℕ, ◌+◌, ◌*◌, ◌<◌}
use mathlib.Core.Path.{◌≡◌}
use lib.ListN.{get_or}
use Rattle.word_dialect.specs.steps.Table.{code_at, Before}
use Rattle.word_dialect.proofs.table.lay_run.Given as goal

abbrev pub invariant-loop-i : goal.invariant-loop-i
invariant-loop-i l =
    (l.code ≡ code_at l.run.first l.run.step l.i) × (l.code < 16)
    × Before (8 * l.c) l.initial.table l.table
    × ((j : ℕ) → j < l.i → get_or l.table (8 * l.c + j) 0 ≡ code_at l.run.first l.run.step j)
