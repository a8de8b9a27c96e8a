-- `slip_digest::encode_into` meets its contract. The loop's invariant: the first n codes are the braid of the first k
-- half bytes.
use Prim.Native.Nat.{◌*◌, ◌≤◌}
use mathlib.Core.Path.{◌≡◌}
use lib.ListN.{length, take}
use Rattle.base.specs.Digits.{halves}
use Rattle.slip_digest.specs.Digest.{braid_of}
use Rattle.slip_digest.proofs.encode_into.Given as goal

abbrev pub invariant-loop-k : goal.invariant-loop-k
invariant-loop-k l =
    (l.n ≤ 20 * l.k) × (length l.codes ≡ length l.initial.codes)
    × (take l.n l.codes ≡ braid_of (take l.k (halves l.digest)))
