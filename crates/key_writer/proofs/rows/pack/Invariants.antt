-- `key_writer::rows::pack` meets its contract. The loop's invariant: the first k groups of the output are the digits of
-- the number that the first k groups of the row write, and the rest of the output is unchanged.
use Prim.Native.Nat.{◌*◌}
use mathlib.Core.Path.{◌≡◌}
use lib.ListN.{length, take}
use Rattle.base.specs.Lists.{overlaid}
use Rattle.base.specs.Digits.{value, digits}
use Rattle.key_writer.proofs.rows.pack.Given as goal

abbrev pub invariant-loop-k : goal.invariant-loop-k
invariant-loop-k l =
    (length l.bytes ≡ length l.initial.bytes)
    × (l.bytes ≡ overlaid (digits 256 (l.k * l.bits) (value l.size (take (l.k * 8) l.row))) l.initial.bytes)
