-- `key::file_entries` meets its contract. The loop's invariant: the places before k hold the file's entries.
use Prim.Native.Nat.{◌/◌, ◌%◌}
use mathlib.Core.Path.{◌≡◌, refl, ap₂, ◌∙◌}
use native.Mathlib.Omega.{arith}
use lib.ListN.{length-set}
use Rattle.matrix.specs.Layout.{entry}
use Rattle.base.proofs.ListLaws.{one_more}
use Rattle.key.specs.steps.Filling.{file_entry}
use Rattle.key.proofs.EntryLaws.{entries_put}
use Rattle.key.proofs.file_entries.Goals as goal

pub loop-k-init : goal.loop-k-init
loop-k-init c = (refl, λ j h. absurd (omega arith))

pub loop-k-preserved : goal.loop-k-preserved
loop-k-preserved c =
    let l = c.loop-k in
    let m = c.args.matrix.now in
    let row : l.k / 8 % 8 ≡ l.k / 8 = omega arith in
    let column : l.k % 8 % 8 ≡ l.k % 8 = omega arith in (
      length-set l.entries l.k _ ∙ l.invariant.0,
      one_more (file_entry m) l.entries l.k _ (omega arith) l.invariant.1
          (c.entry.ensures ∙ ap₂ (entry m) row column),
    )

pub returns : goal.returns
returns c =
    let l = c.loop-k in
    entries_put c.args.matrix.now l.entries _ l.invariant.0 (λ j h. l.invariant.1 j (omega arith)) c.entry-2.ensures
