-- `shelf_calls::load` meets its contract: 30, the key's refusal, or the slot of the key in the number's place.
use Prim.Native.Nat.{ℕ}
use mathlib.Core.Path.{refl, sym, ap, ◌∙◌}
use borrow.Author.Rules.{rules}
use borrow.Author.Tests.{ne_eqb}
use Rattle.shelf.specs.Shelves.{slot_with, replaced}
use Rattle.shelf.specs.Calls.{load}
use Rattle.shelf.proofs.CallLaws.{refused, served, load_30, load_answer, key_fits}
use Rattle.shelf_calls.proofs.load.Goals as goal

pub returns-in_default : goal.returns-in_default
returns-in_default c =
    let a = c.args in
    let none = c.in_default.ensures in
    refused a.publisher (load a.number a.key.now) a.shelf.now 30
    (load_30 a.publisher a.number a.shelf.now a.key.now none) refl

pub returns-then-read-ne0 : goal.returns-then-read-ne0
returns-then-read-ne0 c =
    let a = c.args in
    let slot = c.in-Some.ensures in
    refused a.publisher (load a.number a.key.now) a.shelf.now c.read_key-read.result.answer
    (load_answer a.publisher a.number a.shelf.now a.key.now slot.0 ∙ sym c.read_key-read.ensures.answer_is)
    (ne_eqb c.read_key-read.result.answer 0 c.if-read-ne0.true)

pub hold-requires : goal.hold-requires
hold-requires c =
    (search rules, key_fits c.args.key.now (sym c.read_key-read.ensures.answer_is ∙ c.if-read-ne0.false))

pub returns : goal.returns
returns c =
    let a = c.args in
    let slot = c.in-Some.ensures in
    let passed = sym c.read_key-read.ensures.answer_is ∙ c.if-read-ne0.false in
    served a.publisher (load a.number a.key.now) a.shelf.now
    (load_answer a.publisher a.number a.shelf.now a.key.now slot.0 ∙ passed) refl
    (c.hold.ensures ∙ ap (λ (at : ℕ). replaced at (slot_with a.key.now) a.shelf.now) slot.1)
