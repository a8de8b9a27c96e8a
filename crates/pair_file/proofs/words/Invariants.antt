-- `pair_file::words` meets its contract. The loop's invariant: the letters of the groups so far are multiplied in.
use Prim.Native.Nat.{◌*◌}
use lib.ListN.{take}
use Rattle.base.specs.Digits.{halves}
use Rattle.pair.specs.steps.Columns.{Carried}
use Rattle.pair_file.proofs.words.Given as goal

abbrev pub invariant-loop-group : goal.invariant-loop-group
invariant-loop-group l =
    Carried l.bits l.constants (halves (take (8 * l.group) l.part)) l.initial.columns l.initial.labels l.columns
    l.labels
