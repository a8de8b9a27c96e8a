-- `word_spread::place` meets its contract: at most 1 is subtracted from a label, and only from a label that is over
-- another.
use Prim.Native.Nat.{ℕ, ◌+◌, ◌-◌, ◌*◌, ◌≤◌}
use mathlib.Core.Path.{◌≡◌, refl, ap₂}
use mathlib.Core.Bool.{Bool, true, false, cond}
use native.Mathlib.Omega.{arith}
use borrow.Author.Tests.{ltb-true}
use lib.Dec.{ltb}
use Rattle.word_spread.specs.steps.Counting.{smaller}
use Rattle.word_spread.proofs.place.Goals as goal

-- 1 is only taken from a label that is over another
smaller_le : (a b : ℕ) → smaller a b ≤ b
unfolding smaller
smaller_le a b = go (ltb a b) refl
  where
    go : (t : Bool) → ltb a b ≡ t → cond t 1 0 ≤ b
    go true e = omega (arith, ltb-true a b e)
    go false e = omega arith

smaller_one : (a b : ℕ) → smaller a b ≤ 1
unfolding smaller
smaller_one a b = go (ltb a b)
  where
    go : (t : Bool) → cond t 1 0 ≤ 1
    go true = omega arith
    go false = omega arith

pub overflow_sub-result : goal.overflow_sub-result
overflow_sub-result c = rw c.smaller.ensures (smaller_le c.args.a c.args.b)

pub overflow_add-result-2 : goal.overflow_add-result-2
overflow_add-result-2 c =
    let one = smaller_one c.args.d c.args.c in
    let other = smaller_one c.args.c c.args.d in
    record {
      fits =
          omega (arith, c.ranges.a.fits, c.ranges.b.fits, c.smaller-2.ensures);
    }

pub returns : goal.returns
returns c =
    ap₂ (λ (p q : ℕ). 6 * c.args.a + 2 * (c.args.b - p) + q) c.smaller.ensures c.smaller-2.ensures
