-- `word::read::whole_letters` meets its contract. The loop's invariant: the flag says whether every half byte of the
-- bytes so far is a letter.
use mathlib.Core.Path.{refl, sym, ap, ap₂, ◌∙◌}
use mathlib.Core.Bool.{Bool, ◌&&◌}
use native.Mathlib.Omega.{arith}
use lib.Seq.{take_all}
use Rattle.base.specs.Lists.{every}
use Rattle.base.specs.Digits.{halves}
use Rattle.base.proofs.DigitLaws.{every_halves, length_halves}
use Rattle.word.specs.Letters.{is_letter}
use Rattle.word.proofs.read.whole_letters.Goals as goal

pub loop-b-init : goal.loop-b-init
unfolding every
loop-b-init c = refl

pub loop-b-preserved : goal.loop-b-preserved
loop-b-preserved c =
    let more = every_halves is_letter c.args.bytes.now c.loop-b.b-index (omega arith) in
    ap₂ (λ (x y : Bool). x && y) c.loop-b.invariant c.both_letters-lettered.ensures ∙ sym more

pub returns : goal.returns
returns c =
    let bytes = c.args.bytes.now in
    c.loop-b.invariant
    ∙ ap (every is_letter) (take_all _ (halves bytes) (omega (arith, length_halves bytes)))
