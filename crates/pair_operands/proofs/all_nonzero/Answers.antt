-- `pair_operands::all_nonzero` meets its contract: the flag takes in one number at each turn.
use mathlib.Core.Path.{refl, sym, ap, ◌∙◌}
use mathlib.Core.Bool.{Bool, ◌&&◌, not}
use native.Mathlib.Omega.{arith}
use lib.Dec.{eqb}
use lib.ListN.{get_or}
use lib.Seq.{take_all}
use Rattle.base.specs.Lists.{every}
use Rattle.base.proofs.ListLaws.{every_more}
use Rattle.pair_operands.specs.Operands.{nonzero}
use Rattle.pair_operands.proofs.all_nonzero.Goals as goal

pub loop-x-init : goal.loop-x-init
unfolding every
loop-x-init c = refl

pub loop-x-preserved : goal.loop-x-preserved
loop-x-preserved c =
    let l = c.loop-x in
    ap (λ (b : Bool). b && not (eqb (get_or c.args.xs.now l.x-index 0) 0)) l.invariant
    ∙ sym (every_more (λ t. not (eqb t 0)) c.args.xs.now l.x-index (omega arith))

pub returns : goal.returns
returns c = c.loop-x.invariant ∙ ap nonzero (take_all _ c.args.xs.now (omega arith))
