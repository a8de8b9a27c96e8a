-- `slip_digest_braid::half_bytes` meets its contract. The loop's invariant: the first k half bytes are multiplied in,
-- up to the way back from level l.
use Prim.Native.Nat.{◌≤◌}
use Rattle.base.specs.Digits.{halves}
use Rattle.slip_digest_braid.proofs.ShortBraid.{Reached}
use Rattle.slip_digest_braid.proofs.half_bytes.Given as goal

abbrev pub invariant-loop-k : goal.invariant-loop-k
invariant-loop-k l =
    (l.l ≤ 7)
    × Reached l.bits l.constants l.powers (halves l.digest) l.k l.l l.initial.columns l.initial.labels l.columns
    l.labels
