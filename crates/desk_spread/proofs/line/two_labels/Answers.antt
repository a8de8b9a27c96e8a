-- `desk_spread::line::two_labels` meets its contract: one label is added after the other.
use Prim.Native.Nat.{ℕ, ◌≤◌, ◌<◌}
use mathlib.Core.Path.{◌≡◌, ap₂, subst}
use mathlib.Core.List.{List, [], ◌∷◌}
use native.Mathlib.Omega.{arith}
use lib.ListN.{length, length-append}
use Rattle.text.specs.Decimal.{decimal}
use Rattle.base.specs.steps.Laying.{Laid}
use Rattle.text.proofs.TextLaws.{added_then}
use Rattle.desk_spread.proofs.ListLines.{label_short, spaced}
use Rattle.desk_spread.proofs.line.two_labels.Goals as goal

-- a label as the code reads it has one digit
wide_short : (x : ℕ) {a : ℕ} → x ≡ a → a < 10 → length (decimal x) ≤ 1
wide_short x e h = rw e (label_short _ h)

pub decimal-second-requires : goal.decimal-second-requires
decimal-second-requires c = omega (arith, wide_short _ c.from.ensures c.requires.1)

pub decimal-requires : goal.decimal-requires
decimal-requires c =
    omega (
      arith,
      c.decimal-second.ensures.ends,
      length-append (decimal c.from.result) (32 ∷ []),
      wide_short _ c.from.ensures c.requires.1,
      wide_short _ c.from-2.ensures c.requires.2,
    )

pub returns : goal.returns
returns c =
    subst (λ (t : List ℕ). Laid c.args.at t c.args.text.now c.decimal.new.text c.decimal.result)
    (ap₂ spaced c.from.ensures c.from-2.ensures)
    (added_then (omega (arith, c.requires.0)) c.decimal-second.ensures c.decimal.ensures)
