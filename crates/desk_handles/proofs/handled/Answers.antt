-- `desk_handles::handled` meets its contract: the output of 5,006 bytes has room, so question 15 is passed.
use mathlib.Core.Path.{refl}
use Rattle.desk_handles.proofs.TakingLaws.{handles_taken}
use Rattle.desk_handles.proofs.handled.Goals as goal

pub returns : goal.returns
returns c = handles_taken refl c.handle_reduce-handles.ensures
