-- `word_spread::counted` meets its contract. The loop's invariant: the numbers are those of the words of n letters.
use mathlib.Core.Path.{◌≡◌}
use native.Mathlib.Omega.{arith}
use Rattle.word_spread.proofs.CountLaws.{counted_none, counted_few}
use Rattle.word_spread.proofs.counted.Goals as goal

pub loop-n-init : goal.loop-n-init
loop-n-init c = counted_none

pub step-counts-requires : goal.step-counts-requires
step-counts-requires c =
    let l = c.loop-n in
    counted_few l._n l.counts (omega (arith, c.requires)) l.invariant

pub loop-n-preserved : goal.loop-n-preserved
loop-n-preserved c = c.step-counts.ensures c.loop-n._n c.loop-n.invariant

pub returns : goal.returns
returns c =
    let l = c.loop-n in
    let e : l._n ≡ c.args.length = omega arith in
    rw e at l.invariant
