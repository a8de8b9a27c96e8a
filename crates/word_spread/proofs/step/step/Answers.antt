-- `word_spread::step::step` meets its contract. The loop's invariant: the numbers of the first k lists are in their
-- places.
use Prim.Native.Nat.{◌+◌, ◌<◌}
use mathlib.Core.Path.{refl}
use native.Mathlib.Omega.{arith}
use lib.ListN.{length, length-set}
use Rattle.base.proofs.ListLaws.{one_more}
use Rattle.word_spread.specs.Spread.{ending, list_at}
use Rattle.word_spread.proofs.step.step.Goals as goal

pub loop-k-init : goal.loop-k-init
loop-k-init c = (refl, λ n all j h. absurd (omega arith))

pub loop-k-preserved : goal.loop-k-preserved
loop-k-preserved c =
    let l = c.loop-k in
    let here : l.k < length l.more = omega arith in (
      simp length-set l.invariant.0,
      λ n all. one_more (λ j. ending (n + 1) (list_at j)) l.more l.k c.more_at.result here
          (l.invariant.1 n all) (c.more_at.ensures n all),
    )

pub returns : goal.returns
returns c n all =
    let l = c.loop-k in
    record { size = l.invariant.0; each = λ k h. l.invariant.1 n all k (omega arith) }
