-- `text::number::spell` meets its contract. The loop's invariant: the digits so far are shown as bytes, and the others
-- are unchanged.
use mathlib.Core.Path.{◌≡◌}
use mathlib.Core.List.{◌++◌}
use lib.ListN.{take, drop}
use Rattle.text.specs.Decimal.{shown}
use Rattle.text.proofs.number.spell.Given as goal

abbrev pub invariant-loop-digit : goal.invariant-loop-digit
invariant-loop-digit l =
    l.digit-items ≡ take l.digit-index (shown l.initial.digit-items) ++ drop l.digit-index l.initial.digit-items
