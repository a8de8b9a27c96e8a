-- `word::codes::sixteen_at` meets its contract: the sixteen codes of the number that eight bytes write are the half
-- bytes of those bytes.
use mathlib.Core.Path.{ap, ◌∙◌}
use native.Mathlib.Omega.{arith}
use lib.ListN.{drop, length-drop}
use lib.Seq.{length-take-le}
use Rattle.base.specs.Digits.{digits, part}
use Rattle.base.proofs.DigitLaws.{take_below, drop_below}
use Rattle.word.proofs.SixteenCodes.{sixteen_codes}
use Rattle.word.proofs.codes.sixteen_at.Goals as goal

pub returns : goal.returns
returns c =
    let bytes = c.args.bytes.now in
    let at = c.args.at in
    c.sixteen.ensures
    ∙ ap (digits 16 16) c.eight_bytes-number.ensures
    ∙ sixteen_codes (part at 8 bytes) (length-take-le 8 (drop at bytes) (omega (arith, length-drop at bytes)))
    (take_below 8 (drop at bytes) (drop_below at bytes (λ k. (c.type_inv.bytes k).fits)))
