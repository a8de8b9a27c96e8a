-- `word_reduction::cancel_words` meets its contract. The loop's invariant: the stack holds the freely reduced word of
-- the codes of the first k words of eight bytes.
use Prim.Native.Nat.{◌*◌, ◌≤◌}
use mathlib.Core.Path.{◌≡◌}
use lib.ListN.{take}
use Rattle.base.specs.Digits.{halves}
use Rattle.word.specs.Reduction.{reduced}
use Rattle.word_reduction.proofs.cancel_words.Given as goal

abbrev pub invariant-loop-k : goal.invariant-loop-k
invariant-loop-k l =
    (l.count ≤ 16 * l.k) × (take l.count l.stack ≡ reduced (halves (take (8 * l.k) l.part)))
