-- `word::codes::whole_words` meets its contract. The loop's invariant: the codes of the first k words of eight bytes
-- stand at the front, and the other codes are unchanged.
use Prim.Native.Nat.{◌*◌}
use mathlib.Core.Path.{◌≡◌}
use lib.ListN.{take}
use Rattle.base.specs.Lists.{overlaid}
use Rattle.base.specs.Digits.{halves}
use Rattle.word.proofs.codes.whole_words.Given as goal

abbrev pub invariant-loop-k : goal.invariant-loop-k
invariant-loop-k l = l.codes ≡ overlaid (halves (take (8 * l.k) l.bytes)) l.initial.codes
