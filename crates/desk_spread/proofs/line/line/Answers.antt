-- `desk_spread::line::line` meets its contract: twice two labels and the number are added one after another.
use Prim.Native.Nat.{ℕ, ◌+◌, ◌≤◌, ◌<◌}
use mathlib.Core.Path.{◌≡◌}
use mathlib.Core.List.{List}
use native.Mathlib.Omega.{arith}
use lib.ListN.{get_or}
use Rattle.base.specs.steps.Laying.{Laid}
use Rattle.word_spread.specs.Spread.{list_at}
use Rattle.desk_spread.proofs.ListLines.{label_small, spaced, spaced_short, number_short, line_added}
use Rattle.desk_spread.proofs.line.line.Goals as goal

-- the labels of the list, as the code reads them
small : (labels : List ℕ) (k : ℕ) → k < 24 → labels ≡ list_at k → (j : ℕ) → j < 4 → get_or labels j 0 < 10
small labels k h e j i = rw e (label_small k h j i)

-- where two labels end
pair_end : (a b : ℕ) {at end : ℕ} {before after : List ℕ} → a < 10 → b < 10 → Laid at (spaced a b) before after end
    → end ≤ at + 4
pair_end a b h i l = omega (arith, l.ends, spaced_short a b h i)

pub two_labels-third-requires : goal.two_labels-third-requires
two_labels-third-requires c =
    let s = small c.list_at-labels.result c.args.k c.requires.1 c.list_at-labels.ensures in
    (omega (arith, c.requires.0), s 0 (omega arith), s 1 (omega arith))

pub two_labels-last-requires : goal.two_labels-last-requires
two_labels-last-requires c =
    let s = small c.list_at-labels.result c.args.k c.requires.1 c.list_at-labels.ensures in (
      omega (arith, pair_end _ _ (s 0 (omega arith)) (s 1 (omega arith)) c.two_labels-third.ensures),
      s 2 (omega arith),
      s 3 (omega arith),
    )

pub decimal-requires : goal.decimal-requires
decimal-requires c =
    let s = small c.list_at-labels.result c.args.k c.requires.1 c.list_at-labels.ensures in
    omega (
      arith,
      pair_end _ _ (s 0 (omega arith)) (s 1 (omega arith)) c.two_labels-third.ensures,
      pair_end _ _ (s 2 (omega arith)) (s 3 (omega arith)) c.two_labels-last.ensures,
      number_short c.args.number c.requires.2,
    )

pub returns : goal.returns
returns c =
    let s = small c.list_at-labels.result c.args.k c.requires.1 c.list_at-labels.ensures in
    line_added c.args.k c.requires.1 c.args.number c.list_at-labels.ensures (omega (arith, c.requires.0))
    (omega (arith, pair_end _ _ (s 0 (omega arith)) (s 1 (omega arith)) c.two_labels-third.ensures))
    c.two_labels-third.ensures c.two_labels-last.ensures c.decimal.ensures
