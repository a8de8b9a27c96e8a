-- `desk_crossings::line::line` meets its contract: two labels and the number are added one after another.
use Prim.Native.Nat.{ℕ, ◌+◌, ◌≤◌, ◌<◌}
use mathlib.Core.Path.{◌≡◌, ap, ◌∙◌}
use mathlib.Core.List.{List, [], ◌∷◌, ◌++◌}
use native.Mathlib.Omega.{arith}
use lib.ListN.{length, length-append}
use mir.Syntax.{w32}
use mir.Val.{to_z, of_z}
use Rattle.base.specs.steps.Laying.{Laid}
use Rattle.text.specs.Decimal.{decimal, signed_text}
use Rattle.word_crossing.specs.steps.Pairs.{pair_at}
use Rattle.word_crossing.specs.declared.Two.{Two}
use Rattle.desk_crossings.proofs.LineLaws.{smaller_short, larger_short, number_short, line_added, read_back}
use Rattle.desk_crossings.proofs.line.line.Goals as goal

-- the labels, as the code reads them
module _ {k : ℕ} {two : Two} {a : ℕ} (h : k < 28) (e : two ≡ pair_at k) where
  smaller_is : a ≡ two.smaller → a ≡ (pair_at k).smaller
  smaller_is w = w ∙ ap (λ (t : Two). t.smaller) e

  larger_is : a ≡ two.larger → a ≡ (pair_at k).larger
  larger_is w = w ∙ ap (λ (t : Two). t.larger) e

  smaller_fits : a ≡ two.smaller → length (decimal a) ≤ 1
  smaller_fits w = rw (smaller_is w) (smaller_short k h)

  larger_fits : a ≡ two.larger → length (decimal a) ≤ 1
  larger_fits w = rw (larger_is w) (larger_short k h)

-- where a label ends
label_end : (a : ℕ) {at end : ℕ} {before after : List ℕ} → length (decimal a) ≤ 1
    → Laid at (decimal a ++ (32 ∷ [])) before after end → end ≤ at + 2
label_end a h l = omega (arith, l.ends, length-append (decimal a) (32 ∷ []))

pub decimal-second-requires : goal.decimal-second-requires
decimal-second-requires c =
    omega (arith, smaller_fits c.requires.1 c.pair_at-two.ensures c.from.ensures)

pub decimal-third-requires : goal.decimal-third-requires
decimal-third-requires c =
    let a = smaller_fits c.requires.1 c.pair_at-two.ensures c.from.ensures in
    omega (
      arith,
      label_end _ a c.decimal-second.ensures,
      larger_fits c.requires.1 c.pair_at-two.ensures c.from-2.ensures,
    )

pub signed-requires : goal.signed-requires
signed-requires c =
    let a = smaller_fits c.requires.1 c.pair_at-two.ensures c.from.ensures in
    let b = larger_fits c.requires.1 c.pair_at-two.ensures c.from-2.ensures in
    let n : length (signed_text (to_z w32 (of_z w32 c.args.number))) ≤ 6 =
    rw (read_back c.args.number c.requires.2) (number_short c.args.number c.requires.2) in
    omega (arith, label_end _ a c.decimal-second.ensures, label_end _ b c.decimal-third.ensures)

pub returns : goal.returns
returns c =
    let a = smaller_fits c.requires.1 c.pair_at-two.ensures c.from.ensures in
    line_added c.args.k c.requires.1
    (smaller_is c.requires.1 c.pair_at-two.ensures c.from.ensures)
    (larger_is c.requires.1 c.pair_at-two.ensures c.from-2.ensures)
    (read_back c.args.number c.requires.2) (omega arith)
    (omega (arith, label_end _ a c.decimal-second.ensures)) c.decimal-second.ensures c.decimal-third.ensures
    c.signed.ensures
