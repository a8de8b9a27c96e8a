-- `pair::letter::one_letter` meets its contract: `multiply_columns` gets the constants of the number that the letter
-- takes.
use Prim.Native.Nat.{◌+◌, ◌%◌}
use native.Mathlib.Omega.{arith}
use Rattle.pair.proofs.CarryLaws.{column_below}
use Rattle.pair.proofs.ColumnLaws.{letter_carried}
use Rattle.pair.proofs.letter.one_letter.Goals as goal

pub bounds-labels-g-2 : goal.bounds-labels-g-2
bounds-labels-g-2 c = omega (arith, column_below c.args.code c.requires.1)

pub constants_at-at-requires : goal.constants_at-at-requires
constants_at-at-requires c =
    let g = c.args.code % 8 in
    let below = c.requires.0.below in
    (omega (arith, below g, below (g + 1)), omega (arith, below g, below (g + 1)))

pub multiply_columns-requires : goal.multiply_columns-requires
multiply_columns-requires c =
    let at = c.constants_at-at in
    let held = c.requires.0 in (
      held.nine,
      held.bytes,
      held.small,
      omega (arith, held.small, at.ensures.1),
      rw c.from-g.ensures (column_below c.args.code c.requires.1),
    )

pub returns : goal.returns
returns c =
    let at = c.constants_at-at in
    let a = c.args in
    letter_carried a.bits a.constants.now a.columns.now a.labels.now c.multiply_columns.new.columns
    c.multiply_columns.new.labels a.code at.result c.requires.0 c.requires.1 (cc)
    (rw c.from-g.ensures at c.multiply_columns.ensures)
