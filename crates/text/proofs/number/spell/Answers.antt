-- `text::number::spell` meets its contract. The loop's invariant: the digits so far are shown as bytes, and the others
-- are unchanged.
use Prim.Native.Nat.{◌<◌}
use native.Mathlib.Omega.{arith}
use lib.ListN.{get_or}
use Rattle.base.proofs.DigitLaws.{digits_below}
use Rattle.text.proofs.DecimalLaws.{digit_next, digit_shown}
use Rattle.text.proofs.number.spell.Goals as goal

pub overflow_add-digit : goal.overflow_add-digit
overflow_add-digit c =
    let l = c.loop-digit in
    let ds = c.spell.new.dst in
    let i = l.digit-index in
    let below : get_or ds i 0 < 10 = rw c.spell.ensures (digits_below 10 _ c.from.result (omega arith) i) in
    rw l.invariant (omega (arith, digit_next ds i (omega arith)))

pub loop-digit-preserved : goal.loop-digit-preserved
loop-digit-preserved c =
    let l = c.loop-digit in
    let i = l.digit-index in
    rw l.invariant (digit_shown c.spell.new.dst i (omega arith))
