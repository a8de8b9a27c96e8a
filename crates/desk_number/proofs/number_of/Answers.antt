-- `desk_number::number_of` meets its contract: a longer argument, a number that is too large and a number that is not
-- the argument in decimal give no number.
use Prim.Native.Nat.{ℕ}
use mathlib.Core.Path.{◌≡◌, sym, ap, ◌∙◌}
use native.Mathlib.Omega.{arith}
use Rattle.base.specs.Lists.{equal}
use Rattle.text.specs.Decimal.{decimal}
use Rattle.desk_number.specs.Numbers.{shown_number}
use Rattle.desk_number.proofs.NumberLaws.{written, not_equal, too_large, too_long}
use Rattle.desk_number.proofs.number_of.Goals as goal

pub returns-then-argument-gt5 : goal.returns-then-argument-gt5
returns-then-argument-gt5 c = sym (too_long c.args.argument.now c.if-argument-gt5.true)

pub returns-in_default : goal.returns-in_default
returns-in_default c =
    sym (too_large c.args.argument.now (omega (arith, c.shown.ensures, c.in_default.ensures)))

pub returns-then-writes : goal.returns-then-writes
returns-then-writes c =
    let a = c.args.argument.now in
    let h = c.in-Ok.ensures in
    let e : c.in-Ok.n ≡ shown_number a = h.1 ∙ c.shown.ensures in
    e
    ∙ sym (written a
    (ap (λ (n : ℕ). equal a (decimal n)) (sym e) ∙ sym c.writes.ensures ∙ c.if-writes.true)
    (omega (arith, c.shown.ensures, h.0)))

pub returns-else-writes : goal.returns-else-writes
returns-else-writes c =
    let a = c.args.argument.now in
    let e : c.in-Ok.n ≡ shown_number a = c.in-Ok.ensures.1 ∙ c.shown.ensures in
    sym (not_equal a (ap (λ (n : ℕ). equal a (decimal n)) (sym e) ∙ sym c.writes.ensures ∙ c.if-writes.false))
