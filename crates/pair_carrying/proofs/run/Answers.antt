-- `pair_carrying::run` meets its contract. The loop's invariant: the letters so far are multiplied in.
use native.Mathlib.Omega.{arith}
use Rattle.word.specs.Letters.{is_letter}
use Rattle.base.proofs.ListLaws.{every_get_d}
use Rattle.pair.proofs.ColumnLaws.{none_carried, one_more_carried, all_carried}
use Rattle.pair_carrying.proofs.run.Goals as goal

pub loop-code-init : goal.loop-code-init
loop-code-init c =
    let a = c.args in
    none_carried a.bits a.constants.now a.columns.now a.labels.now c.requires.0

pub one_letter-requires : goal.one_letter-requires
one_letter-requires c =
    let l = c.loop-code in
    (l.invariant.holds, every_get_d is_letter c.args.codes.now c.requires.1 l.code-index (omega arith))

pub loop-code-preserved : goal.loop-code-preserved
loop-code-preserved c =
    let l = c.loop-code in
    one_more_carried c.args.codes.now l.code-index (omega arith) l.invariant c.one_letter.ensures

pub returns : goal.returns
returns c =
    let l = c.loop-code in
    all_carried c.args.codes.now l.code-index (omega arith) l.invariant
