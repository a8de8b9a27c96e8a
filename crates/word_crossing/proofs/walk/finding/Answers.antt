-- `word_crossing::walk::finding` meets its contract.
use Prim.Native.Nat.{ℕ, ◌+◌}
use mathlib.Core.Path.{ap₂}
use native.Mathlib.Omega.{arith}
use lib.ListN.{get_or}
use Rattle.word_crossing.proofs.walk.finding.Goals as goal

pub overflow_add-result : goal.overflow_add-result
overflow_add-result c =
    let few = c.requires.0.few in
    record { fits = omega (arith, few c.slot.result, few c.slot-2.result) }

pub returns : goal.returns
returns c =
    let at = c.args.counts.now in
    let few = c.requires.0.few in
    let one = c.slot in
    let two = c.slot-2 in (
      ap₂ (λ (j k : ℕ). get_or at j 0 + get_or at k 0) one.ensures two.ensures,
      omega (arith, few one.result, few two.result),
    )
