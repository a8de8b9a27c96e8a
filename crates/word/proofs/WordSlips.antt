-- Two refused word files as examples, one for each half byte of an odd word's last byte.
use mathlib.Core.Path.{◌≡◌, refl}
use mathlib.Core.List.{[], ◌∷◌}
use Rattle.base.specs.Questions.{first_no}
use Rattle.base.specs.Lists.{every}
use Rattle.base.specs.Digits.{value, halves}
use Rattle.word.specs.Words.{codes, filler, word_answer}

-- an odd word's last half byte must be 0: 00 01 07 gives 13. Its last code must be a letter: 00 01 7F gives 12
pub slip_filler : word_answer (0x00 ∷ 0x01 ∷ 0x07 ∷ []) ≡ 13
unfolding word_answer codes filler first_no every value halves
slip_filler = refl

pub slip_code : word_answer (0x00 ∷ 0x01 ∷ 0x7F ∷ []) ≡ 12
unfolding word_answer codes filler first_no every value halves
slip_code = refl
