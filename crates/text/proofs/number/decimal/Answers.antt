-- `text::number::decimal` meets its contract: the digits go to a part that is lent, and the byte behind them.
use Prim.Native.Nat.{◌+◌, ◌-◌}
use native.Mathlib.Omega.{arith}
use Rattle.text.proofs.DecimalLaws.{length_decimal}
use Rattle.text.proofs.TextLaws.{added_number}
use Rattle.text.proofs.number.decimal.Goals as goal

pub overflow_add-end : goal.overflow_add-end
overflow_add-end c = omega (arith, c.places.ensures, length_decimal c.args.n)

pub slice_bounds-spell-end : goal.slice_bounds-spell-end
slice_bounds-spell-end c = omega (arith, c.places.ensures, length_decimal c.args.n)

pub bounds-text-end : goal.bounds-text-end
bounds-text-end c = omega (arith, c.places.ensures, length_decimal c.args.n, c.spell.auto.part)

pub overflow_add-result : goal.overflow_add-result
overflow_add-result c = omega (arith, c.places.ensures, length_decimal c.args.n)

pub returns : goal.returns
returns c =
    let a = c.args in
    added_number {m = a.at + c.places.result - a.at} a.text.now a.at a.n a.then c.places.ensures (omega arith)
    (omega (arith, c.places.ensures, length_decimal a.n)) c.spell.ensures
