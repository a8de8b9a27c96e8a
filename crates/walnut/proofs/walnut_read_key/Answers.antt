-- `walnut::walnut_read_key` meets its contract: it gives the parts of the key that the key reader gives.
use mathlib.Core.Path.{◌≡◌, ap, subst, sym, ◌∙◌}
use mathlib.Core.Bool.{Bool}
use Rattle.field.proofs.Fields.{named}
use Rattle.field.specs.Fields.{field_of}
use Rattle.field.specs.declared.Field.{Field}
use Rattle.key.specs.declared.Key.{Key}
use Rattle.key.specs.Keys.{ReadsKey}
use Rattle.walnut.proofs.walnut_read_key.Goals as goal

-- a key is unchanged if its field is turned into a name and back
same_key : (k : Key) (large : Bool) → field_of large ≡ k.field
    → record { field = field_of large; t_values = k.t_values; pair = k.pair; second = k.second } ≡ k
same_key k large e =
    ap (λ (f : Field). record { field = f; t_values = k.t_values; pair = k.pair; second = k.second }) e

pub returns : goal.returns
returns c =
    let k = c.read_key-read.result.key in
    subst (λ (q : Key). ReadsKey c.args.file.now c.read_key-read.result.answer q)
    (sym (same_key k c.is_large.result (ap field_of c.is_large.ensures ∙ named k.field)))
    c.read_key-read.ensures
