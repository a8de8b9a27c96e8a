-- `shelf_calls::clear` meets its contract: 30, or the slot of the empty file in the number's place.
use Prim.Native.Nat.{ℕ}
use mathlib.Core.Path.{refl, ap, ◌∙◌}
use mathlib.Core.List.{[]}
use Rattle.shelf.specs.Shelves.{slot_with, replaced}
use Rattle.shelf.specs.Calls.{clear}
use Rattle.shelf.proofs.CallLaws.{refused, served, clear_30, clear_answer}
use Rattle.shelf_calls.proofs.clear.Goals as goal

pub returns-in_default : goal.returns-in_default
returns-in_default c =
    let a = c.args in
    let none = c.in_default.ensures in
    refused a.publisher (clear a.number) a.shelf.now 30
    (clear_30 a.publisher a.number a.shelf.now none) refl

pub returns : goal.returns
returns c =
    let a = c.args in
    let slot = c.in-Some.ensures in
    served a.publisher (clear a.number) a.shelf.now (clear_answer a.publisher a.number a.shelf.now slot.0) refl
    (c.hold.ensures ∙ ap (λ (at : ℕ). replaced at (slot_with []) a.shelf.now) slot.1)
