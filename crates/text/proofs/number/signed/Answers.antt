-- `text::number::signed` meets its contract: the number alone, or a minus sign and the number behind it.
use mathlib.Core.Path.{◌≡◌, ap}
use mathlib.Core.List.{◌∷◌}
use native.Mathlib.Omega.{arith}
use lib.ListN.{length, length-set}
use Rattle.text.specs.Decimal.{decimal, signed_text}
use Rattle.text.proofs.IntegerLaws.{text_from_zero, text_below_zero}
use Rattle.text.proofs.TextLaws.{added_byte, added_then}
use Rattle.text.proofs.number.signed.Goals as goal

pub decimal-requires : goal.decimal-requires
decimal-requires c =
    let from_zero : signed_text c.args.n ≡ decimal c.unsigned_abs-size.result =
    text_from_zero c.args.n c.ranges.n c.unsigned_abs-size.result c.unsigned_abs-size.ensures.value c.if-n-ge0.true in
    omega (arith, ap length from_zero)

pub returns-then-n-ge0 : goal.returns-then-n-ge0
returns-then-n-ge0 c =
    let from_zero : signed_text c.args.n ≡ decimal c.unsigned_abs-size.result =
    text_from_zero c.args.n c.ranges.n c.unsigned_abs-size.result c.unsigned_abs-size.ensures.value c.if-n-ge0.true in
    rw from_zero c.decimal.ensures

pub decimal-requires-2 : goal.decimal-requires-2
decimal-requires-2 c =
    let below_zero : signed_text c.args.n ≡ 45 ∷ decimal c.unsigned_abs-size.result =
    text_below_zero c.args.n c.ranges.n c.unsigned_abs-size.result c.unsigned_abs-size.ensures.value c.if-n-ge0.false in
    simp length-set (omega (arith, ap length below_zero))

pub shape_of-text : goal.shape_of-text
shape_of-text c =
    simp length-set at c.decimal-2.auto.text

pub returns : goal.returns
returns c =
    let below_zero : signed_text c.args.n ≡ 45 ∷ decimal c.unsigned_abs-size.result =
    text_below_zero c.args.n c.ranges.n c.unsigned_abs-size.result c.unsigned_abs-size.ensures.value c.if-n-ge0.false in
    let a = c.args in
    rw below_zero
    (added_then (omega arith) (added_byte a.text.now a.at 45 (omega arith)) c.decimal-2.ensures)
