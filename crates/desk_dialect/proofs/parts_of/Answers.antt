-- `desk_dialect::parts_of` meets its contract. The loop's invariant: the first k parts are written.
use Prim.Native.Nat.{ℕ, ◌/◌, ◌+◌}
use mathlib.Core.Path.{refl, ◌∙◌}
use native.Mathlib.Omega.{arith}
use borrow.Author.Count.{below_none}
use lib.ListN.{length, length-set}
use Rattle.base.proofs.ListLaws.{one_more}
use Rattle.desk_dialect.specs.Converting.{part_at}
use Rattle.desk_dialect.proofs.ConvertingLaws.{too_long_text, all_written}
use Rattle.desk_dialect.proofs.parts_of.Goals as goal

pub returns-then-text-gt13 : goal.returns-then-text-gt13
returns-then-text-gt13 c = (omega arith, too_long_text _ c.if-text-gt13.true)

pub loop-k-init : goal.loop-k-init
loop-k-init c = (refl, below_none _)

pub bounds-parts-k : goal.bounds-parts-k
bounds-parts-k c = omega (arith, c.loop-k.invariant.0, c.requires)

pub loop-k-preserved : goal.loop-k-preserved
loop-k-preserved c =
    let l = c.loop-k in (
      length-set l.parts l.k c.part_at.result ∙ l.invariant.0,
      one_more (part_at c.args.text.now) l.parts l.k c.part_at.result (omega (arith, l.invariant.0, c.requires))
          l.invariant.1 c.part_at.ensures,
    )

pub shape_of-parts : goal.shape_of-parts
shape_of-parts c = c.loop-k.invariant.0

pub returns : goal.returns
returns c =
    let l = c.loop-k in
    let n : ℕ = length c.args.text.now / 2 + 1 in (
      omega arith,
      all_written c.args.text.now l.parts n refl (omega arith) (omega (arith, l.invariant.0, c.requires))
          (λ j h. l.invariant.1 j (omega arith)),
    )
