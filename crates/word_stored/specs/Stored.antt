-- The stored form of a word, with signs and generators apart: three sizes of 2 bytes, high byte first (letters, bytes
-- of signs, bytes of generators), then the sign bits, one a letter, and the generator numbers less one, three bits a
-- letter. Zero bits fill each of the two rows to a byte. Storing and restoring ask their questions in the papers'
-- order.
use Rattle.std.specs.Prelude.{ℕ, ◌+◌, ◌*◌, ◌≡◌, cond, not, leb, eqb, length, take}
use mathlib.Core.List.{List, [], ◌∷◌, ◌++◌, map, zip_with}
use Rattle.base.specs.Questions.{Question, ◌else◌, first_no}
use Rattle.base.specs.Lists.{every}
use Rattle.base.specs.Digits.{value, digits, part}
use Rattle.base.specs.Packing.{Below, row_bytes, packed_row, unpacked_row, row_filler}
use Rattle.base.specs.Files.{joined, file_part}
use Rattle.word.specs.Letters.{is_inverse, generator}
use Rattle.word.specs.Words.{max_letters, codes, room_question, word_questions, word_answer, word_file, Wrote}

-- a word has at most 10,000 letters, so its stored form has at most 6 + 1,250 + 3,750 bytes
abbrev pub max_stored : ℕ
max_stored = 5006

-- the bytes of each part of the stored form of n letters: the three sizes, the signs, the generators
abbrev pub stored_sizes : ℕ → List ℕ
stored_sizes n = 2 ∷ 2 ∷ 2 ∷ row_bytes 1 n ∷ row_bytes 3 n ∷ []

-- ---- the stored form of a word

-- the sign bit: 1 for an inverse
abbrev pub sign : ℕ → ℕ
sign c = cond (is_inverse c) 1 0

abbrev pub signs : List ℕ → List ℕ
signs cs = map sign cs

abbrev pub generators : List ℕ → List ℕ
generators cs = map generator cs

abbrev pub stored_parts : List ℕ → List (List ℕ)
stored_parts cs =
    digits 256 2 (length cs)
    ∷ digits 256 2 (row_bytes 1 (length cs))
    ∷ digits 256 2 (row_bytes 3 (length cs))
    ∷ packed_row 1 (signs cs)
    ∷ packed_row 3 (generators cs)
    ∷ []

unfoldable pub stored_file : List ℕ → List ℕ
stored_file cs = joined (stored_parts cs)

-- ---- what a stored form holds

-- the three sizes that a file states
abbrev pub letters_stated : List ℕ → ℕ
letters_stated file = value 256 (part 0 2 file)

abbrev pub sign_bytes : List ℕ → ℕ
sign_bytes file = value 256 (part 2 2 file)

abbrev pub generator_bytes : List ℕ → ℕ
generator_bytes file = value 256 (part 4 2 file)

-- The bytes of the signs and of the generators, and the two rows that they hold. The number of letters decides where
-- they stand.
abbrev pub sign_part : List ℕ → List ℕ
sign_part file = file_part (stored_sizes (letters_stated file)) 3 file

abbrev pub generator_part : List ℕ → List ℕ
generator_part file = file_part (stored_sizes (letters_stated file)) 4 file

unfoldable pub stored_signs : List ℕ → List ℕ
stored_signs file = unpacked_row 1 (letters_stated file) (sign_part file)

unfoldable pub stored_generators : List ℕ → List ℕ
stored_generators file = unpacked_row 3 (letters_stated file) (generator_part file)

-- the code of the letter with this sign bit and this generator number less one
abbrev pub letter_of : ℕ → ℕ → ℕ
letter_of s g = 8 * s + g

-- the codes of the letters that a file holds
unfoldable pub stored_codes : List ℕ → List ℕ
stored_codes file = zip_with letter_of (stored_signs file) (stored_generators file)

-- ---- the questions

-- the sizes of a stored form: 28 for fewer than 6 bytes, 10 for the letters, 28 for sizes that disagree with the
-- letters or with the length
abbrev pub size_questions : List ℕ → List Question
size_questions file =
    (leb 6 (length file) else 28)
    ∷ (leb (letters_stated file) max_letters else 10)
    ∷ (eqb (sign_bytes file) (row_bytes 1 (letters_stated file)) else 28)
    ∷ (eqb (generator_bytes file) (row_bytes 3 (letters_stated file)) else 28)
    ∷ (eqb (length file) (6 + sign_bytes file + generator_bytes file) else 28)
    ∷ []

-- the rows of a stored form: 29 for a three-bit number 7, or for filler that is not zero
abbrev pub row_questions : List ℕ → List Question
row_questions file =
    (every (λ g. not (eqb g 7)) (stored_generators file) else 29)
    ∷ (eqb (row_filler 1 (letters_stated file) (sign_part file)) 0 else 29)
    ∷ (eqb (row_filler 3 (letters_stated file) (generator_part file)) 0 else 29)
    ∷ []

abbrev pub stored_questions : List ℕ → List Question
stored_questions file = size_questions file ++ row_questions file

unfoldable pub stored_answer : List ℕ → ℕ
stored_answer file = first_no (stored_questions file)

-- Storing: 15, with a limit of its own, then the word
abbrev pub store_questions : ℕ → List ℕ → List Question
store_questions room word = (leb max_stored room else 15) ∷ word_questions word

-- Restoring writes a word: 15, then the stored form
abbrev pub restore_questions : ℕ → List ℕ → List Question
restore_questions room file = room_question room ∷ stored_questions file

-- ---- the operations: what they return, and what they leave in the output

abbrev pub WroteStored : List ℕ → List ℕ → List ℕ → ℕ → ℕ → Type 0
WroteStored word before after answer bytes =
    Wrote (store_questions (length before) word) (stored_file (codes word)) before after answer bytes

abbrev pub WroteRestored : List ℕ → List ℕ → List ℕ → ℕ → ℕ → Type 0
WroteRestored file before after answer bytes =
    Wrote (restore_questions (length before) file) (word_file (stored_codes file)) before after answer bytes

-- storing gives the file: storing some accepted word, in some output, answers 0 and leaves the file in the output's
-- first bytes, as many as it reports
pub record StoringGives (file : List ℕ) : Type 0 where
  pub word : List ℕ
  pub bytes_are : Below 256 word
  pub accepted : word_answer word ≡ 0
  pub before : List ℕ
  pub after : List ℕ
  pub bytes : ℕ
  pub stores : WroteStored word before after 0 bytes
  pub gives : take bytes after ≡ file
