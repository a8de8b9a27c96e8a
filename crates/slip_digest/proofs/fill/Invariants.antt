-- `slip_digest::fill` meets its contract. The loop's invariant: the codes so far are written, and `next` is the next
-- one.
use Prim.Native.Nat.{◌+◌, ◌*◌, ◌%◌}
use mathlib.Core.Path.{◌≡◌}
use lib.ListN.{take}
use Rattle.slip_digest.specs.steps.Runs.{progression}
use Rattle.slip_digest.proofs.fill.Given as goal

abbrev pub invariant-loop-code : goal.invariant-loop-code
invariant-loop-code l =
    (l.next ≡ (l.first + l.step * l.code-index) % 16)
    × (take l.code-index l.code-items ≡ progression l.first l.step l.code-index)
