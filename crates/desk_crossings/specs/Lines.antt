-- The program that lists how often every two strands of a word cross (document 02, §2): its lines, and how large its
-- buffer has to be.
use Rattle.std.specs.Prelude.{ℕ, cond, List, [], ◌∷◌, ◌++◌, take, ℤ}
use Rattle.base.specs.Questions.{granted}
use Rattle.text.specs.Decimal.{decimal, signed_text}
use Rattle.text.specs.Texts.{line}
use Rattle.text.specs.Enough.{Enough}
use Rattle.word.specs.Words.{codes, word_answer}
use Rattle.word_crossing.specs.Crossings.{all_pairs, all_crossings}
use Rattle.word_crossing.specs.declared.Two.{Two}
use Rattle.desk_line.specs.Desk.{answer_line}
use Rattle.desk_line.specs.declared.Got.{Got}

-- the line of a pair: its smaller label, its larger label, and its number
unfoldable pub pair_line : Two → ℤ → List ℕ
pair_line p number = line (decimal p.smaller ∷ decimal p.larger ∷ signed_text number ∷ [])

-- the lines of some pairs, each with its number
unfoldable pub lines_of : List Two → List ℤ → List ℕ
lines_of [] numbers = []
lines_of (p ∷ ps) [] = []
lines_of (p ∷ ps) (n ∷ ns) = pair_line p n ++ lines_of ps ns

-- the text written for a word: the lines of all pairs, or on a refusal the desk program's line
unfoldable pub crossing_text : List ℕ → List ℕ
crossing_text word =
    granted (word_answer word) (lines_of all_pairs (all_crossings (codes word))) (answer_line (word_answer word))

-- The text written for a word that was read into a buffer: the word is the buffer's first bytes, as many as were read.
-- There is no text if the word could not be read.
unfoldable pub word_text : Got → List ℕ → List ℕ
word_text got word = cond got.read (crossing_text (take got.bytes word)) []

-- n bytes of an input of any length are enough to read: the text for these bytes is the text for the whole input
abbrev pub EnoughOfWord : ℕ → Type 0
EnoughOfWord n = Enough n crossing_text
