-- `shelf_charges::is_admitted` meets its contract: both charges are read at their places.
use Prim.Native.Nat.{ℕ, ◌+◌}
use mathlib.Core.Path.{◌≡◌, ap, ap₂, ◌∙◌}
use mathlib.Core.List.{List}
use lib.Dec.{leb}
use Rattle.base.specs.Digits.{value, part}
use Rattle.shelf.specs.Charges.{further, over_by, charge_place, charged}
use Rattle.shelf_charges.proofs.is_admitted.Goals as goal

-- two bytes at a publisher's place write its charge
read_at : (p at v : ℕ) (shelf : List ℕ) → at ≡ charge_place p → v ≡ value 256 (part at 2 shelf) → v ≡ charged p shelf
unfolding charged
read_at p at v shelf e r = r ∙ ap (λ (k : ℕ). value 256 (part k 2 shelf)) e

pub returns : goal.returns
returns c =
    let a = c.args in
    let mine =
    read_at a.publisher c.charge_place-own.result c.two_bytes-own_charge.result a.shelf.now
    c.charge_place-own.ensures.0 c.two_bytes-own_charge.ensures.0 in
    let theirs =
    read_at _ c.charge_place-others.result c.two_bytes-other_charge.result a.shelf.now
    (c.charge_place-others.ensures.0 ∙ ap charge_place c.partner-other.ensures.0) c.two_bytes-other_charge.ensures.0 in
    ap₂ (λ (x y : ℕ). leb (x + y) further)
    (c.over_by.ensures ∙ ap (λ (k : ℕ). over_by (k + a.letters)) mine)
    (c.over_by-2.ensures ∙ ap over_by theirs)
