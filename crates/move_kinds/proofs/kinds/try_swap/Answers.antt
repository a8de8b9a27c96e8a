-- `move_kinds::kinds::try_swap` meets its contract: a refusal for each question, and two stores.
use Prim.Native.Nat.{◌+◌}
use mathlib.Core.Path.{refl, sym, ◌∙◌}
use native.Mathlib.Omega.{arith}
use lib.ListN.{length-set}
use Rattle.move_kinds.specs.Kinds.{exchange}
use Rattle.move_kinds.proofs.CodeKinds.{refused_22, refused_then, made, exchange_test, exchange_word}
use Rattle.move_kinds.proofs.kinds.try_swap.Goals as goal

pub returns-then-n-place : goal.returns-then-n-place
returns-then-n-place c =
    rw (c.refused.ensures.0, c.refused.ensures.1)
    (refused_22 c.requires.0 (exchange c.args.place) (c.args.place + 2) refl c.if-n-place.true)

pub returns-then-not-are_far : goal.returns-then-not-are_far
returns-then-not-are_far c =
    let a = c.args in
    rw (c.refused-then-not-are_far.ensures.0, c.refused-then-not-are_far.ensures.1)
    (refused_then c.requires.0 (exchange a.place) (a.place + 2) refl (omega arith) c.if-n-place.false
    (exchange_test a.codes.now a.n a.place c.if-n-place.false ∙ sym c.are_far.ensures
    ∙ c.if-not-are_far.true))

pub returns : goal.returns
returns c =
    let a = c.args in
    made c.requires.0 (exchange a.place) (a.place + 2) refl c.if-n-place.false
    (exchange_test a.codes.now a.n a.place c.if-n-place.false ∙ sym c.are_far.ensures
    ∙ c.if-not-are_far.false)
    (simp length-set) c.requires.0.short
    (exchange_word a.codes.now a.n a.place c.if-n-place.false (omega (arith, c.requires.0.short, c.requires.0.room)))
