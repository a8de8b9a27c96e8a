-- `word_spread::step::step` meets its contract. The loop's invariant: the numbers of the first k lists are in their
-- places.
use Prim.Native.Nat.{ℕ, ◌+◌, ◌<◌}
use mathlib.Core.Path.{◌≡◌}
use lib.ListN.{length, get_or}
use Rattle.word_spread.specs.Spread.{ending, list_at}
use Rattle.word_spread.specs.steps.Counting.{Counted}
use Rattle.word_spread.proofs.step.step.Given as goal

abbrev pub invariant-loop-k : goal.invariant-loop-k
invariant-loop-k l =
    (length l.more ≡ 24)
    × ((n : ℕ) → Counted n l.counts → (j : ℕ) → j < l.k → get_or l.more j 0 ≡ ending (n + 1) (list_at j))
