-- `slip_verdict::Halved::refused` meets its contract.
use mathlib.Core.Path.{refl}
use lib.ListN.{replicate}
use Rattle.field.specs.declared.Field.TheVariants.{Gf32}
use Rattle.slip_verdict.specs.Halves.{zero_half}
use Rattle.slip_verdict.proofs.Halved.refused.Goals as goal

pub returns : goal.returns
unfolding zero_half
returns c = (
  refl,
  λ j. record { field = Gf32; t_values = replicate 8 0; pair = c.zeros.ensures j; target = replicate 64 0 },
)
