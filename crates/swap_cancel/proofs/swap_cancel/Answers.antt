-- `swap_cancel::swap_cancel` meets its contract.
use mathlib.Core.Path.{sym, ap, ◌∙◌}
use native.Mathlib.Omega.{arith}
use lib.ListN.{length}
use lib.Seq.{length-take-le}
use Rattle.swap_cancel.proofs.swap_cancel.Goals as goal

pub returns : goal.returns
returns c =
    let m = c.mark_all in
    let p = c.pack_kept in
    let word = p.ensures.1 ∙ m.ensures in
    let fits =
    length-take-le p.result p.new.codes (omega (arith, p.ensures.0, p.auto.codes, m.auto.codes, c.requires.1)) in
    record { word_is = word; count_is = sym fits ∙ ap length word }
