-- `word_crossing::walk::numbers` meets its contract. The loop's invariant: the numbers of the first k pairs are in
-- their places.
use Prim.Native.Nat.{ℕ, ◌<◌}
use mathlib.Core.Path.{◌≡◌}
use lib.IntN.{pos}
use lib.ListN.{length, get_or}
use Rattle.word.specs.Words.{codes}
use Rattle.word_crossing.specs.Crossings.{crossings}
use Rattle.word_crossing.specs.steps.Pairs.{pair_at}
use Rattle.word_crossing.proofs.walk.numbers.Given as goal

abbrev pub invariant-loop-k : goal.invariant-loop-k
invariant-loop-k l =
    (length l.numbers ≡ 28)
    × ((j : ℕ) → j < l.k → get_or l.numbers j (pos 0) ≡ crossings (pair_at j).smaller (pair_at j).larger (codes l.word))
