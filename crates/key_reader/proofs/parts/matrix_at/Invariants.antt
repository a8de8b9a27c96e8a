-- `key_reader::parts::matrix_at` meets its contract. The loop's invariant: the entries of the first r rows are in their
-- places, and all other entries are zero.
use Prim.Native.Nat.{◌*◌}
use Rattle.key.specs.steps.Filling.{EntriesPlaced}
use Rattle.key_reader.proofs.RowsRead.{held}
use Rattle.key_reader.proofs.parts.matrix_at.Given as goal

abbrev pub invariant-loop-r : goal.invariant-loop-r
invariant-loop-r l = EntriesPlaced (held l.file l.at l.bits) (8 * l.r) l.m
