-- `pair_carrying::run` meets its contract. The loop's invariant: the letters so far are multiplied in.
use lib.ListN.{take}
use Rattle.pair.specs.steps.Columns.{Carried}
use Rattle.pair_carrying.proofs.run.Given as goal

abbrev pub invariant-loop-code : goal.invariant-loop-code
invariant-loop-code l =
    Carried l.bits l.constants (take l.code-index l.codes) l.initial.columns l.initial.labels l.columns l.labels
