-- `handle_steps::reduce` meets its contract: it lends a row and tables of zeros.
use mathlib.Core.Path.{refl}
use Rattle.handle_steps.proofs.RunEnds.{zeros}
use Rattle.handle_steps.proofs.reduce.Goals as goal

pub work_in-requires : goal.work_in-requires
work_in-requires c = (
  c.requires,
  record { room = refl; beside = refl; slots = refl; none = zeros 9 },
)
