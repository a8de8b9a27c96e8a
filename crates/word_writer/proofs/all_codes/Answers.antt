-- `word_writer::all_codes` meets its contract. The loop's invariant: the flag says whether each of the codes so far is
-- a letter.
use mathlib.Core.Path.{refl, sym, ap, ap₂, ◌∙◌}
use mathlib.Core.Bool.{Bool, ◌&&◌}
use native.Mathlib.Omega.{arith}
use lib.Seq.{take_all}
use Rattle.base.specs.Lists.{every}
use Rattle.base.proofs.ListLaws.{every_more}
use Rattle.word.specs.Letters.{is_letter}
use Rattle.word_writer.proofs.all_codes.Goals as goal

pub loop-c-init : goal.loop-c-init
unfolding every
loop-c-init c = refl

pub loop-c-preserved : goal.loop-c-preserved
loop-c-preserved c =
    let more = every_more is_letter c.args.codes.now c.loop-c.c-index (omega arith) in
    ap₂ (λ (x y : Bool). x && y) c.loop-c.invariant c.is_letter-lettered.ensures ∙ sym more

pub returns : goal.returns
returns c = c.loop-c.invariant ∙ ap (every is_letter) (take_all _ c.args.codes.now (omega arith))
