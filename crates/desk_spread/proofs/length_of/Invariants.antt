-- `desk_spread::length_of` meets its contract. The loop's invariant: the argument writes no length below n.
use Prim.Native.Nat.{◌-◌}
use mathlib.Core.Path.{◌≡◌}
use Rattle.base.specs.Lists.{first_from, equal}
use Rattle.text.specs.Decimal.{decimal}
use Rattle.desk_spread.specs.SpreadLines.{length_of}
use Rattle.desk_spread.proofs.length_of.Given as goal

abbrev pub invariant-loop-n : goal.invariant-loop-n
invariant-loop-n l = length_of l.argument ≡ first_from (λ m. equal l.argument (decimal m)) l.n (13 - l.n)
