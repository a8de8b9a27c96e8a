-- `move_kinds::kinds::try_braid` meets its contract: a refusal for each question, and three stores.
use Prim.Native.Nat.{◌+◌}
use mathlib.Core.Path.{refl, sym, ◌∙◌}
use native.Mathlib.Omega.{arith}
use lib.ListN.{length-set}
use Rattle.move_kinds.specs.Kinds.{braiding}
use Rattle.move_kinds.proofs.CodeKinds.{refused_22, refused_then, made, braiding_test, braiding_word}
use Rattle.move_kinds.proofs.kinds.try_braid.Goals as goal

pub returns-then-n-place : goal.returns-then-n-place
returns-then-n-place c =
    rw (c.refused.ensures.0, c.refused.ensures.1)
    (refused_22 c.requires.0 (braiding c.args.place) (c.args.place + 3) refl c.if-n-place.true)

pub returns-then-not-is_braid : goal.returns-then-not-is_braid
returns-then-not-is_braid c =
    let a = c.args in
    rw (c.refused-then-not-is_braid.ensures.0, c.refused-then-not-is_braid.ensures.1)
    (refused_then c.requires.0 (braiding a.place) (a.place + 3) refl (omega arith) c.if-n-place.false
    (braiding_test a.codes.now a.n a.place c.if-n-place.false ∙ sym c.is_braid.ensures
    ∙ c.if-not-is_braid.true))

pub returns : goal.returns
returns c =
    let a = c.args in
    made c.requires.0 (braiding a.place) (a.place + 3) refl c.if-n-place.false
    (braiding_test a.codes.now a.n a.place c.if-n-place.false ∙ sym c.is_braid.ensures
    ∙ c.if-not-is_braid.false)
    (simp length-set) c.requires.0.short
    (braiding_word a.codes.now a.n a.place c.if-n-place.false (omega (arith, c.requires.0.short, c.requires.0.room)))
