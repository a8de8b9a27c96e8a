-- `handle_row::ends::replace` meets its contract: three codes are stored, or one.
use mathlib.Core.Path.{ap}
use native.Mathlib.Omega.{arith}
use lib.ListN.{length}
use Rattle.handle_row.proofs.EndLaws.{conjugated_three, conjugated_one, writes_one}
use Rattle.handle_row.proofs.ends.replace.Goals as goal

pub returns : goal.returns
returns c =
    let a = c.args in
    writes_one a.part.now a.at a.a a.d c.requires c.if-d-a.false

-- there is room for three codes
pub overflow_sub-from : goal.overflow_sub-from
overflow_sub-from c =
    omega (arith, c.requires.enough, ap length (conjugated_three c.args.a c.args.d c.if-d-a.true))

-- there is room for one code
pub overflow_sub-part-2 : goal.overflow_sub-part-2
overflow_sub-part-2 c =
    omega (arith, c.requires.enough, ap length (conjugated_one c.args.a c.args.d c.if-d-a.false))
