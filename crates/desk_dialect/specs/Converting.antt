-- The verbs of the desk that turn a word into the other dialect (document 02, §11): the parts that an argument writes,
-- what the verbs answer and write, and how large a buffer has to be.
use Rattle.std.specs.Prelude.{ℕ, ◌+◌, ◌*◌, ◌-◌, ◌/◌, Bool, true, cond, ◌&&◌, List, [], leb, eqb, length, get_or}
use Rattle.base.specs.Questions.{first_no}
use Rattle.base.specs.Lists.{values}
use Rattle.text.specs.Enough.{Enough}
use Rattle.word.specs.Words.{codes, word_file}
use Rattle.word_stored.specs.Stored.{max_stored}
use Rattle.word_dialect.specs.Dialect.{converted, dialect_questions}
use Rattle.desk_words.specs.Making.{to_write, MakesNew}
use Rattle.desk_words.specs.declared.Made.{Made}

-- the digit that a byte shows; 0 for a byte that shows none
abbrev pub digit_shown : ℕ → ℕ
digit_shown b = cond (leb 48 b && leb b 57) (b - 48) 0

-- Part k of a text of digits with commas between them. The part is 0 if the text goes on after its digit without a
-- comma.
unfoldable pub part_at : List ℕ → ℕ → ℕ
part_at text k = cond (eqb (get_or text (2 * k + 1) 44) 44) (digit_shown (get_or text (2 * k) 0)) 0

-- The parts that a text such as 4,3 writes. Any other text gives a part 0, or no parts, and question 33 refuses both.
-- Parts of 7 need at most 13 bytes: seven digits and six commas.
unfoldable pub parts_of : List ℕ → List ℕ
parts_of text = cond (leb (length text) 13) (values (part_at text) (length text / 2 + 1)) []

-- the answer of a conversion, where its output has room
unfoldable pub convert_answer : Bool → List ℕ → List ℕ → ℕ
convert_answer way parts word = first_no (dialect_questions way max_stored word parts)

-- the file of the converted word
abbrev pub converted_file : Bool → List ℕ → List ℕ → List ℕ
converted_file way parts word = word_file (converted way parts (codes word))

-- turning a word into the other dialect: the answer of the conversion, and the file of the new word
abbrev pub Converts : Bool → Bool → List ℕ → List ℕ → Made → Type 0
Converts way read parts word made =
    MakesNew read (convert_answer way parts word) (converted_file way parts word) made

-- The first w bytes of a word's file are enough to read: the answer and the bytes written are those for the whole file.
abbrev pub EnoughToConvert : Bool → List ℕ → ℕ → Type 0
EnoughToConvert way parts w =
    Enough w (convert_answer way parts)
    × Enough w (λ word. to_write true (convert_answer way parts word) (converted_file way parts word))
