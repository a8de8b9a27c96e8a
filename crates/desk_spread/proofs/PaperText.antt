-- Document 02's example: for length 2 the first line is "0 1 2 3 12".
use mathlib.Core.Path.{◌≡◌, refl}
use mathlib.Core.List.{[], ◌∷◌}
use lib.ListN.{take}
use Rattle.base.specs.Questions.{first_no, granted}
use Rattle.base.specs.Lists.{first_from, every, tally, values_from, equal, each_once}
use Rattle.base.specs.Digits.{digits}
use Rattle.text.specs.Decimal.{places, decimal}
use Rattle.text.specs.Texts.{line}
use Rattle.word.specs.Strands.{swapped, list_after}
use Rattle.word_spread.specs.Spread.{each_in_front, rows_of, those, all_lists, words_between, ending, all_endings}
use Rattle.desk_spread.specs.SpreadLines.{list_line, list_lines, spread_text, usual_length}

pub first_line : take 11 (spread_text usual_length)
    ≡ 48 ∷ 32 ∷ 49 ∷ 32 ∷ 50 ∷ 32 ∷ 51 ∷ 32 ∷ 49 ∷ 50 ∷ 10 ∷ []
unfolding first_no granted every tally values_from equal each_once digits first_from places decimal line swapped
    list_after
    each_in_front rows_of those all_lists words_between ending all_endings list_line list_lines spread_text
first_line = refl
