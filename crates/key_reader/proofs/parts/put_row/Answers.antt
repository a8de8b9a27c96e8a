-- `key_reader::parts::put_row` meets its contract. The loop's invariant: the entries of the row before column c are in
-- their places.
use Prim.Native.Nat.{ℕ, ◌+◌, ◌*◌}
use mathlib.Core.Path.{◌≡◌, sym, subst, ◌∙◌}
use native.Mathlib.Nat.{add-zero}
use native.Mathlib.Omega.{arith}
use lib.ListN.{length-set}
use Rattle.key.specs.steps.Filling.{EntriesPlaced}
use Rattle.key.proofs.EntryLaws.{row_more}
use Rattle.key_reader.proofs.parts.put_row.Goals as goal

pub loop-c-init : goal.loop-c-init
loop-c-init c =
    let a = c.args in
    (c.requires.0, λ es e f. subst (λ (k : ℕ). EntriesPlaced es k a.m.now) (sym (add-zero (8 * a.r))) f)

pub loop-c-preserved : goal.loop-c-preserved
loop-c-preserved c =
    let l = c.loop-c in (
      length-set l.m _ _ ∙ l.invariant.0,
      λ es e f. row_more es l.m c.args.r l.c c.place.ensures.0 (sym (e l.c (omega arith))) (omega arith) (omega arith)
          (l.invariant.1 es e f),
    )

pub returns : goal.returns
returns c es e f =
    let l = c.loop-c in
    let all : 8 * c.args.r + l.c ≡ 8 * (c.args.r + 1) = omega arith in
    subst (λ (k : ℕ). EntriesPlaced es k l.m) all (l.invariant.1 es e f)
