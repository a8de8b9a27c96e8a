-- `slip_digest::selected` meets its contract by the rule of the low two bits.
use native.Mathlib.Omega.{arith}
use Rattle.slip_digest.proofs.HalfByte.{selected_is}
use Rattle.slip_digest.proofs.selected.Goals as goal

pub returns : goal.returns
returns c = (selected_is c.args.h, omega arith, omega arith)
