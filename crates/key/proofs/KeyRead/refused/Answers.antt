-- `key::KeyRead::refused` meets its contract.
use mathlib.Core.Path.{refl}
use Rattle.field.specs.declared.Field.TheVariants.{Gf32}
use lib.ListN.{replicate}
use Rattle.key.specs.Keys.{zero_key}
use Rattle.key.proofs.KeyRead.refused.Goals as goal

pub returns : goal.returns
unfolding zero_key
returns c = (
  refl,
  λ j. record { field = Gf32; t_values = replicate 8 0; pair = c.zeros.ensures j; second = replicate 64 0 },
)
