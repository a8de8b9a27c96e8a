-- `walnut::walnut_first_half` meets its contract: it gives the parts of the half that the first half gives.
use mathlib.Core.Path.{◌≡◌, ap, subst, sym, ◌∙◌}
use mathlib.Core.Bool.{Bool}
use Rattle.field.proofs.Fields.{named}
use Rattle.field.specs.Fields.{field_of}
use Rattle.field.specs.declared.Field.{Field}
use Rattle.slip_verdict.specs.declared.Half.{Half}
use Rattle.slip_verdict.specs.Halves.{MakesHalf}
use Rattle.walnut.specs.Exported.{half_from}
use Rattle.walnut.proofs.walnut_first_half.Goals as goal

-- a half is unchanged if its field is turned into a name and back
same_half : (h : Half) (large : Bool) → field_of large ≡ h.field
    → half_from large h.t_values h.pair h.target ≡ h
same_half h large e =
    ap (λ (f : Field). record { field = f; t_values = h.t_values; pair = h.pair; target = h.target }) e

pub returns : goal.returns
returns c =
    let a = c.args in
    let h = c.first_half-made.result.half in
    subst (λ (q : Half). MakesHalf a.key.now a.digest.now c.first_half-made.result.answer q)
    (sym (same_half h c.is_large.result (ap field_of c.is_large.ensures ∙ named h.field)))
    c.first_half-made.ensures
