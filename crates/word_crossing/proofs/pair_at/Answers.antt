-- `word_crossing::pair_at` meets its contract: its rows are those of all pairs.
use mathlib.Core.Path.{sym}
use Rattle.word_crossing.specs.Crossings.{with_each, pairs_from}
use Rattle.word_crossing.proofs.PairLaws.{label_at, past_last}
use Rattle.word_crossing.proofs.pair_at.Goals as goal

pub returns-then-k-ge28 : goal.returns-then-k-ge28
returns-then-k-ge28 c = sym (past_last c.args.k c.if-k-ge28.true)

pub returns : goal.returns
unfolding with_each pairs_from
returns c =
    let k = c.args.k in
    let h = c.if-k-ge28.false in
    let a = label_at (λ p. p.smaller) k h in
    let b = label_at (λ p. p.larger) k h in
    λ i. record { smaller = a i; larger = b i }
