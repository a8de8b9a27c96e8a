-- `desk_spread::line::lines` meets its contract. The loop's invariant: the lines of the first k lists are written, of
-- at most 19 bytes each.
use Prim.Native.Nat.{◌<◌}
use mathlib.Core.Path.{refl, ◌∙◌}
use native.Mathlib.Omega.{arith}
use lib.ListN.{get_or}
use Rattle.base.specs.Lists.{overlaid}
use Rattle.text.proofs.TextLaws.{told_more}
use Rattle.desk_spread.specs.SpreadLines.{list_lines}
use Rattle.desk_spread.proofs.ListLines.{line_short, lines_more, lines_all}
use Rattle.desk_spread.proofs.line.lines.Goals as goal

pub loop-k-init : goal.loop-k-init
unfolding list_lines overlaid
loop-k-init c = (omega arith, refl, record { bytes_are = refl; text_is = refl })

pub line-at-requires : goal.line-at-requires
line-at-requires c =
    let l = c.loop-k in
    (omega (arith, l.invariant.1), omega arith, c.requires.small l.k)

pub loop-k-preserved : goal.loop-k-preserved
loop-k-preserved c =
    let l = c.loop-k in
    let here : l.k < 24 = omega arith in
    let number = get_or c.args.numbers.now l.k 0 in (
      omega (arith, c.line-at.ensures.ends, line_short l.k here number (c.requires.small l.k)),
      c.line-at.auto.text ∙ l.invariant.1,
      rw (lines_more c.args.numbers.now l.k here (omega (arith, c.requires.size)))
          (told_more l.invariant.2 c.line-at.ensures),
    )

pub returns : goal.returns
returns c =
    let l = c.loop-k in
    rw (lines_all c.args.numbers.now l.k (omega arith) (omega (arith, c.requires.size))) at l.invariant.2

pub bounds-numbers-k : goal.bounds-numbers-k
bounds-numbers-k c = omega (arith, c.requires.size)

pub slice_bounds-line-end : goal.slice_bounds-line-end
slice_bounds-line-end c = omega (arith, c.loop-k.invariant.1)
