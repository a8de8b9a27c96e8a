-- `shelf_charges::charge` meets its contract: the sum's two digits to base 256 stand at the publisher's place.
use Prim.Native.Nat.{ℕ, ◌+◌}
use mathlib.Core.Path.{◌≡◌, ap, ◌∙◌}
use mathlib.Core.List.{List}
use Rattle.base.specs.Digits.{value, digits, part}
use Rattle.shelf.specs.Shelves.{replaced}
use Rattle.shelf.specs.Charges.{charge_place, charged, charging}
use Rattle.shelf_charges.proofs.charge.Goals as goal

stored : (p n at v : ℕ) (two shelf : List ℕ) → at ≡ charge_place p → v ≡ value 256 (part at 2 shelf)
    → two ≡ digits 256 2 (v + n) → replaced at two shelf ≡ charging p n shelf
unfolding charged
stored p n at v two shelf e r d =
    ap (λ (l : List ℕ). replaced at l shelf) (d ∙ ap (λ (k : ℕ). digits 256 2 (k + n)) r)
    ∙ ap (λ (k : ℕ). replaced k (digits 256 2 (value 256 (part k 2 shelf) + n)) shelf) e

pub returns : goal.returns
returns c =
    let a = c.args in
    c.replace.ensures
    ∙ stored a.publisher a.letters c.charge_place-at.result c.two_bytes.result _ a.shelf.now
    c.charge_place-at.ensures.0 c.two_bytes.ensures.0 c.spell.ensures
