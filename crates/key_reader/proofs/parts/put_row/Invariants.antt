-- `key_reader::parts::put_row` meets its contract. The loop's invariant: the entries of the row before column c are in
-- their places.
use Prim.Native.Nat.{ℕ, ◌+◌, ◌*◌, ◌<◌}
use mathlib.Core.Path.{◌≡◌}
use mathlib.Core.List.{List}
use lib.ListN.{length, get_or}
use Rattle.key.specs.steps.Filling.{EntriesPlaced}
use Rattle.key_reader.proofs.parts.put_row.Given as goal

abbrev pub invariant-loop-c : goal.invariant-loop-c
invariant-loop-c l =
    (length l.m ≡ 64)
    × ((es : List ℕ) → ((k : ℕ) → k < 8 → get_or es (8 * l.r + k) 0 ≡ get_or l.row k 0)
    → EntriesPlaced es (8 * l.r) l.initial.m
    → EntriesPlaced es (8 * l.r + l.c) l.m)
