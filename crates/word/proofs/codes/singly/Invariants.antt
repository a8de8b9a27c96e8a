-- `word::codes::singly` meets its contract. The loop's invariant: the first 2 * k codes are half bytes of the bytes,
-- and the other codes are unchanged.
use Prim.Native.Nat.{◌*◌}
use mathlib.Core.Path.{◌≡◌}
use mathlib.Core.List.{◌++◌}
use lib.ListN.{take, drop}
use Rattle.base.specs.Digits.{halves}
use Rattle.word.proofs.codes.singly.Given as goal

abbrev pub invariant-loop-k : goal.invariant-loop-k
invariant-loop-k l = l.codes ≡ take (2 * l.k) (halves l.bytes) ++ drop (2 * l.k) l.initial.codes
