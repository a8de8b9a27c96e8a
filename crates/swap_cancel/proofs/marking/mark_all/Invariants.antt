-- `swap_cancel::marking::mark_all` meets its contract. The loop's invariant: the letters that are not marked are what
-- swapping and cancelling leaves of the codes read, the other codes are unchanged, and the rows have the latest
-- letters.
use mathlib.Core.Path.{◌≡◌}
use lib.ListN.{length, take, drop}
use Rattle.swap_cancel.specs.SwapCancel.{swap_cancelled}
use Rattle.swap_cancel.specs.steps.Marking.{kept, Marked}
use Rattle.swap_cancel.proofs.marking.mark_all.Given as goal

abbrev pub invariant-loop-k : goal.invariant-loop-k
invariant-loop-k l =
    Marked l.n l.codes l.before l.last l.k
    × (length l.before ≡ 10000)
    × (kept (take l.k l.codes) ≡ swap_cancelled (take l.k l.initial.codes))
    × (drop l.k l.codes ≡ drop l.k l.initial.codes)
