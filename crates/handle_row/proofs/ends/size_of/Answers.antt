-- `handle_row::ends::size_of` meets its contract.
use mathlib.Core.Path.{sym, ap}
use native.Mathlib.Omega.{arith}
use lib.ListN.{length}
use Rattle.handle_row.proofs.EndLaws.{conjugated_one}
use Rattle.handle_row.proofs.ends.size_of.Goals as goal

pub returns : goal.returns
returns c =
    let a = c.args in
    (sym (ap length (conjugated_one a.a a.d c.if-d-a.false)), omega arith)
