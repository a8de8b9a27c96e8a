-- `move_kinds::kinds::try_remove` meets its contract: a refusal for each question, and then `remove_two`.
use Prim.Native.Nat.{◌+◌}
use mathlib.Core.Path.{refl, sym, ◌∙◌}
use native.Mathlib.Omega.{arith}
use borrow.Author.Tests.{eq-eqb, ne_eqb}
use Rattle.word.specs.Cancellation.{removal}
use Rattle.move_kinds.proofs.CodeKinds.{refused_22, refused_then, made, removal_test}
use Rattle.move_kinds.proofs.kinds.try_remove.Goals as goal

pub returns-then-n-place : goal.returns-then-n-place
returns-then-n-place c =
    rw (c.refused.ensures.0, c.refused.ensures.1)
    (refused_22 c.requires.0 (removal c.args.place) (c.args.place + 2) refl c.if-n-place.true)

pub returns-then-codes-place : goal.returns-then-codes-place
returns-then-codes-place c =
    let a = c.args in
    rw (c.refused-then-codes-place.ensures.0, c.refused-then-codes-place.ensures.1)
    (refused_then c.requires.0 (removal a.place) (a.place + 2) refl (omega arith) c.if-n-place.false
    (removal_test a.codes.now a.n a.place c.if-n-place.false
    ∙ ne_eqb _ _ (λ e. c.if-codes-place.true (e ∙ sym c.inverse.ensures))))

pub returns : goal.returns
returns c =
    let r = c.remove_two in
    let a = c.args in
    made c.requires.0 (removal a.place) (a.place + 2) refl c.if-n-place.false
    (removal_test a.codes.now a.n a.place c.if-n-place.false
    ∙ eq-eqb _ _ (c.if-codes-place.false ∙ c.inverse.ensures)) r.auto.codes
    (omega (arith, c.requires.0.short)) r.ensures
