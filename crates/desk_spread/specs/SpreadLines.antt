-- The program that prints how words of a length spread over the 24 lists (document 02, §13): its lines, and the length
-- that its argument writes.
use Rattle.std.specs.Prelude.{ℕ, List, [], ◌∷◌, ◌++◌, map}
use Rattle.base.specs.Questions.{first_no, granted}
use Rattle.base.specs.Lists.{first_from, equal}
use Rattle.text.specs.Decimal.{decimal}
use Rattle.text.specs.Texts.{line}
use Rattle.word_spread.specs.Spread.{all_lists, all_endings, length_questions}
use Rattle.desk_line.specs.Desk.{answer_line}

-- the line of a list: its labels and its number
unfoldable pub list_line : List ℕ → ℕ → List ℕ
list_line labels number = line (map decimal labels ++ (decimal number ∷ []))

-- the lines of some lists, each with its number
unfoldable pub list_lines : List (List ℕ) → List ℕ → List ℕ
list_lines [] numbers = []
list_lines (l ∷ ls) [] = []
list_lines (l ∷ ls) (n ∷ ns) = list_line l n ++ list_lines ls ns

-- what is written for a length: the lines of all 24 lists, or on a refusal the desk program's line
unfoldable pub spread_text : ℕ → List ℕ
spread_text n =
    let answer : ℕ = first_no (length_questions n) in
    granted answer (list_lines all_lists (all_endings n)) (answer_line answer)

-- the length that the program uses without an argument
abbrev pub usual_length : ℕ
usual_length = 2

-- the length that an argument writes in decimal, from 0 to 12. Any other argument stands for 13, which is refused
unfoldable pub length_of : List ℕ → ℕ
length_of argument = first_from (λ n. equal argument (decimal n)) 0 13
