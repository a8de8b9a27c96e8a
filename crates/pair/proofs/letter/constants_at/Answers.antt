-- `pair::letter::constants_at` meets its contract: each sign has its own place.
use native.Mathlib.Omega.{arith}
use Rattle.pair.proofs.letter.constants_at.Goals as goal

pub returns-then-inverse : goal.returns-then-inverse
returns-then-inverse c = (rw c.if-inverse.true, omega arith)

pub returns-else-inverse : goal.returns-else-inverse
returns-else-inverse c = (rw c.if-inverse.false, omega arith)
