-- `swap_cancel::packing::pack_kept` meets its contract. The loop's invariant: the first codes are the letters of the
-- codes read, and the codes that are not read are unchanged.
use Prim.Native.Nat.{◌≤◌}
use mathlib.Core.Path.{◌≡◌}
use lib.ListN.{take, drop}
use Rattle.swap_cancel.specs.steps.Marking.{kept}
use Rattle.swap_cancel.proofs.packing.pack_kept.Given as goal

abbrev pub invariant-loop-k : goal.invariant-loop-k
invariant-loop-k l =
    (l.count ≤ l.k)
    × (take l.count l.codes ≡ kept (take l.k l.initial.codes))
    × (drop l.k l.codes ≡ drop l.k l.initial.codes)
