-- How words spread (document 02, §13): four strands, the letters b1 to b3 and their inverses. How many words of a
-- length, begun from the list 0 to 3, end in a given list.
use Rattle.std.specs.Prelude.{ℕ, zero, suc, ◌+◌, ◌≡◌, Bool, cond, ◌&&◌, List, [], ◌∷◌, ◌++◌, map, leb, eqb, length}
use Rattle.std.specs.Prelude.{get_or, replicate}
use Rattle.base.specs.Questions.{Question, ◌else◌, first_no, granted}
use Rattle.base.specs.Lists.{values, equal, each_once}
use Rattle.word.specs.Strands.{list_after}

-- ---- rows of numbers

-- each of some numbers in front of each of some rows
unfoldable pub each_in_front : List (List ℕ) → List ℕ → List (List ℕ)
each_in_front rows [] = []
each_in_front rows (x ∷ xs) = map (λ row. x ∷ row) rows ++ each_in_front rows xs

-- all rows of n numbers from a list. The rows stand in increasing order if the list does
unfoldable pub rows_of : List ℕ → ℕ → List (List ℕ)
rows_of xs zero = [] ∷ []
rows_of xs (suc n) = each_in_front (rows_of xs n) xs

-- the rows that pass a test
unfoldable pub those : (List ℕ → Bool) → List (List ℕ) → List (List ℕ)
those f [] = []
those f (row ∷ rows) = cond (f row) (row ∷ those f rows) (those f rows)

-- ---- words and lists

-- the codes of b1, b2, b3 and of their inverses
abbrev pub six_letters : List ℕ
six_letters = 0 ∷ 1 ∷ 2 ∷ 8 ∷ 9 ∷ 10 ∷ []

-- all words of a length, unreduced
abbrev pub words_of : ℕ → List (List ℕ)
words_of n = rows_of six_letters n

-- the labels 0 to 3
abbrev pub four_labels : List ℕ
four_labels = values (λ a. a) 4

-- is the list four labels, 0 to 3 each once?
abbrev pub is_four : List ℕ → Bool
is_four labels = eqb (length labels) 4 && each_once 4 labels

-- the 24 lists, increasing
unfoldable pub all_lists : List (List ℕ)
all_lists = those is_four (rows_of four_labels 4)

-- list k of the 24 lists, counted from 0; past the last list, no labels
abbrev pub list_at : ℕ → List ℕ
list_at k = get_or all_lists k []

-- ---- how many words end in a list

-- the words of a length that lead from one list to another
unfoldable pub words_between : ℕ → List ℕ → List ℕ → List (List ℕ)
words_between n start labels = those (λ w. equal (list_after start w) labels) (words_of n)

-- how many words of a length, begun from the list 0 to 3, end in a list
unfoldable pub ending : ℕ → List ℕ → ℕ
ending n labels = length (words_between n four_labels labels)

-- the most letters of a word that is counted
abbrev pub max_length : ℕ
max_length = 12

-- Words that end in a list: is the length at most 12, and is the list four labels, 0 to 3 each once? 35
abbrev pub spread_questions : ℕ → List ℕ → List Question
spread_questions n labels = (leb n max_length && is_four labels else 35) ∷ []

-- an answer, and beside it the number of words, which is 0 on a refusal
pub record Ends (n : ℕ) (labels : List ℕ) (answer words : ℕ) : Type 0 where
  pub answer_is : answer ≡ first_no (spread_questions n labels)
  pub words_is : words ≡ granted (first_no (spread_questions n labels)) (ending n labels) 0

-- All 24 lists at once: is the length at most 12? 35
abbrev pub length_questions : ℕ → List Question
length_questions n = (leb n max_length else 35) ∷ []

-- how many words of a length end in each of the 24 lists
unfoldable pub all_endings : ℕ → List ℕ
all_endings n = map (ending n) all_lists

-- the sum of numbers
unfoldable pub total : List ℕ → ℕ
total [] = 0
total (x ∷ xs) = x + total xs

-- an answer, and beside it the 24 numbers, which are zeros on a refusal
pub record EndsAll (n answer : ℕ) (numbers : List ℕ) : Type 0 where
  pub answer_is : answer ≡ first_no (length_questions n)
  pub numbers_are : numbers ≡ granted (first_no (length_questions n)) (all_endings n) (replicate 24 0)
