-- `desk_crossings::line::lines` meets its contract. The loop's invariant: the lines of the first k pairs are written,
-- of at most 11 bytes each.
use mathlib.Core.Path.{refl, ◌∙◌}
use native.Mathlib.Omega.{arith}
use lib.IntN.{pos}
use lib.ListN.{get_or}
use Prim.Native.Nat.{◌<◌}
use Rattle.base.specs.Lists.{overlaid}
use Rattle.text.proofs.TextLaws.{told_more}
use Rattle.desk_crossings.specs.Lines.{lines_of}
use Rattle.desk_crossings.proofs.LineLaws.{read_back, line_short, lines_more, lines_all}
use Rattle.desk_crossings.proofs.line.lines.Goals as goal

pub loop-k-init : goal.loop-k-init
unfolding lines_of overlaid
loop-k-init c =
    (omega arith, refl, record { bytes_are = refl; text_is = refl })

pub line-at-requires : goal.line-at-requires
line-at-requires c =
    let l = c.loop-k in
    let small = c.requires.small l.k in
    (omega (arith, l.invariant.1), omega arith, rw (read_back _ small) small)

pub loop-k-preserved : goal.loop-k-preserved
loop-k-preserved c =
    let l = c.loop-k in
    let numbers = c.args.numbers.now in
    let number = get_or numbers l.k (pos 0) in
    let small = c.requires.small l.k in
    let here : l.k < 28 = omega arith in
    let line = rw (read_back number small) at c.line-at.ensures in (
      omega (arith, line.ends, line_short l.k here number small),
      c.line-at.auto.text ∙ l.invariant.1,
      rw (lines_more numbers l.k here (omega (arith, c.requires.size))) (told_more l.invariant.2 line),
    )

pub returns : goal.returns
returns c =
    let l = c.loop-k in
    rw (lines_all c.args.numbers.now l.k (omega arith) (omega (arith, c.requires.size))) at l.invariant.2

pub slice_bounds-line-end : goal.slice_bounds-line-end
slice_bounds-line-end c = omega (arith, c.loop-k.invariant.1)
