-- `desk_shelf::digit_of` meets its contract: one byte from 48 to 57 is a digit.
use mathlib.Core.Path.{sym}
use native.Mathlib.Omega.{arith}
use Rattle.desk_shelf.proofs.ServingLaws.{not_one, below_0, above_9, is_digit}
use Rattle.desk_shelf.proofs.digit_of.Goals as goal

pub returns-then-text-ne1 : goal.returns-then-text-ne1
returns-then-text-ne1 c = sym (not_one c.args.text.now c.if-text-ne1.true)

pub returns-then-digit-lt48 : goal.returns-then-digit-lt48
returns-then-digit-lt48 c = sym (below_0 c.args.text.now c.if-digit-lt48.true)

pub returns-then-digit-gt57 : goal.returns-then-digit-gt57
returns-then-digit-gt57 c = sym (above_9 c.args.text.now c.if-digit-gt57.true)

pub overflow_cast-result : goal.overflow_cast-result
overflow_cast-result c = omega (arith, c.if-digit-gt57.false)

pub returns : goal.returns
returns c =
    sym (is_digit c.args.text.now c.if-text-ne1.false c.if-digit-lt48.false c.if-digit-gt57.false)
