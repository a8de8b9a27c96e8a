-- `word_dialect::following` meets its contract. The loop's invariant: the answer is that of the parts from the
-- next part on, for the generator counted from the start of that part.
use mathlib.Core.Path.{◌≡◌}
use lib.ListN.{drop}
use Rattle.word_dialect.specs.Dialect.{following}
use Rattle.word_dialect.proofs.following.Given as goal

abbrev pub invariant-loop-p : goal.invariant-loop-p
invariant-loop-p l = following (drop l.p-index l.parts) l.left ≡ following l.parts l.g
