-- `matrix::entry` meets its contract.
use Prim.Native.Nat.{ℕ}
use mathlib.Core.Path.{ap}
use lib.ListN.{get_or}
use Rattle.matrix.specs.Layout.{entry}
use Rattle.matrix.proofs.entry.Goals as goal

pub returns : goal.returns
unfolding entry
returns c = ap (λ (k : ℕ). get_or c.args.m.now k 0) c.place.ensures.0
