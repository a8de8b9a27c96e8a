-- `swap_cancel::marking::partner` meets its contract.
use mathlib.Core.Path.{◌∙◌}
use native.Mathlib.Omega.{arith}
use Rattle.swap_cancel.proofs.marking.partner.Goals as goal

-- the letter that cancels is found
pub returns : goal.returns
returns c =
    let e = c.from-g.ensures in
    let own = rw e at c.from-at.ensures in
    let below = rw e at c.if-own-last.false in
    let above = rw e at c.if-own-last-2.false in
    record {
      own = omega arith;
      below = omega arith;
      above = omega arith;
      cancels = c.if-codes-at.false ∙ c.inverse.ensures;
    }
