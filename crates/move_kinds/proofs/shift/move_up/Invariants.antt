-- `move_kinds::shift::move_up` meets its contract. The loop's invariant: the first k codes are the part's codes from
-- the third on, the others are unchanged.
use mathlib.Core.Path.{◌≡◌}
use mathlib.Core.List.{◌++◌}
use lib.ListN.{take, drop}
use Rattle.move_kinds.proofs.shift.move_up.Given as goal

abbrev pub invariant-loop-k : goal.invariant-loop-k
invariant-loop-k l = l.part ≡ take l.k (drop 2 l.initial.part) ++ drop l.k l.initial.part
