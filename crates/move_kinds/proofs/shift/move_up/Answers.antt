-- `move_kinds::shift::move_up` meets its contract. The loop's invariant: the first k codes are the part's codes from
-- the third on, the others are unchanged.
use mathlib.Core.Path.{◌∙◌}
use native.Mathlib.Omega.{arith}
use lib.ListN.{drop, length-drop}
use Rattle.base.proofs.ListLaws.{overlay_whole}
use Rattle.move_kinds.proofs.CodeRows.{up_step}
use Rattle.move_kinds.proofs.shift.move_up.Goals as goal

pub loop-k-preserved : goal.loop-k-preserved
loop-k-preserved c =
    let l = c.loop-k in
    up_step c.args.part.now l.part l.k (omega arith) l.invariant

pub returns : goal.returns
returns c =
    let l = c.loop-k in
    let p = c.args.part.now in
    l.invariant ∙ overlay_whole (drop 2 p) p l.k (omega (arith, length-drop 2 p))
