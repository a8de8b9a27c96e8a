-- `field::steps::inverse` meets its contract: it gives entry r - 1 of the table, where r is the number's remainder, or
-- 0 if r is 0.
use Prim.Native.Nat.{◌+◌}
use native.Mathlib.Nat.{mod-lt}
use native.Mathlib.Omega.{arith}
use lib.ListN.{length}
use Rattle.field.proofs.TableLaws.{none_before, one_before}
use Rattle.field.proofs.steps.inverse.Goals as goal

pub bounds-table-at : goal.bounds-table-at
bounds-table-at c =
    let a = c.args in
    omega (arith, mod-lt c.from.result {m = length a.table.now + 1} (omega arith))

pub returns-then-at-eq0 : goal.returns-then-at-eq0
returns-then-at-eq0 c =
    none_before c.args.table.now c.args.a (rw c.from.ensures at c.if-at-eq0.true)

pub returns-else-at-eq0 : goal.returns-else-at-eq0
returns-else-at-eq0 c =
    let a = c.args in
    rw c.from.ensures (one_before a.table.now a.a (rw c.from.ensures at c.if-at-eq0.false))
