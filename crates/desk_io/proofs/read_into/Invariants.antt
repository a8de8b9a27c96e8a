-- The buffer keeps its length, and the bytes counted lie within it. The measure is the number of bytes of the buffer
-- that are left.
use Rattle.std.proofs.Common.{◌≤◌, ◌-◌, length}
use Rattle.desk_io.proofs.read_into.Given as goal

abbrev pub invariant-loop-n : goal.invariant-loop-n
invariant-loop-n g l = l.n ≤ length l.buf

abbrev pub decreases-loop-n : goal.decreases-loop-n
decreases-loop-n g l = length l.buf - l.n
