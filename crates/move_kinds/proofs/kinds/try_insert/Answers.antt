-- `move_kinds::kinds::try_insert` meets its contract: a refusal for each question, and then `insert_two`.
use Prim.Native.Nat.{ℕ}
use mathlib.Core.Path.{refl, ap, ◌∙◌}
use native.Mathlib.Omega.{arith}
use lib.ListN.{take}
use Rattle.move_kinds.specs.Kinds.{insertion}
use Rattle.move_kinds.specs.steps.Leaving.{insert_two}
use Rattle.move_kinds.proofs.CodeKinds.{refused_22, refused_then, made, room_for, no_room_for}
use Rattle.move_kinds.proofs.kinds.try_insert.Goals as goal

pub returns-then-n-place : goal.returns-then-n-place
returns-then-n-place c =
    rw (c.refused.ensures.0, c.refused.ensures.1)
    (refused_22 c.requires.0 (insertion c.args.c c.args.place) c.args.place refl c.if-n-place.true)

pub returns-then-n-gt-MAX_LETTERS : goal.returns-then-n-gt-MAX_LETTERS
returns-then-n-gt-MAX_LETTERS c =
    let a = c.args in
    rw (c.refused-then-n-gt-MAX_LETTERS.ensures.0, c.refused-then-n-gt-MAX_LETTERS.ensures.1)
    (refused_then c.requires.0 (insertion a.c a.place) a.place refl (omega arith) c.if-n-place.false
    (no_room_for c.requires.0 c.if-n-gt-MAX_LETTERS.true))

pub returns : goal.returns
returns c =
    let i = c.insert_two in
    let a = c.args in
    made c.requires.0 (insertion a.c a.place) a.place refl c.if-n-place.false
    (room_for c.requires.0 c.if-n-gt-MAX_LETTERS.false) i.auto.codes c.if-n-gt-MAX_LETTERS.false
    (i.ensures
    ∙ ap (λ (d : ℕ). insert_two a.c d a.place (take a.n a.codes.now))
    c.inverse.ensures)
