-- Document 02's example: in 00 02 00, b1 b1, the labels 0 and 1 cross twice, and no other two do.
use mathlib.Core.Path.{◌≡◌, refl}
use mathlib.Core.List.{[], ◌∷◌, map}
use lib.IntN.{pos}
use lib.ListN.{replicate}
use Rattle.base.specs.Digits.{value, halves}
use Rattle.base.specs.Lists.{values_from, tally}
use Rattle.word.specs.Exponent.{exponent_sum}
use Rattle.word.specs.Strands.{swapped}
use Rattle.word.specs.Words.{codes}
use Rattle.word_crossing.specs.Crossings.{swaps, swapping, crossings_from, crossings, with_each, pairs_from}
use Rattle.word_crossing.specs.Crossings.{all_pairs}

pub paper_word : map (λ p. crossings p.smaller p.larger (codes (0x00 ∷ 0x02 ∷ 0x00 ∷ []))) all_pairs
    ≡ pos 2 ∷ replicate 27 (pos 0)
unfolding value halves codes values_from tally exponent_sum swapped swaps swapping crossings_from crossings with_each
    pairs_from
paper_word = refl
