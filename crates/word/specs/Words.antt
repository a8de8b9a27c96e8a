-- Word files, also called signatures: the number of letters in 2 bytes, high first, then the codes, two to a byte, the
-- earlier in the high half. An odd word's last half byte is 0. The reader and the writer from codes ask their questions
-- in the paper's order.
use Rattle.std.specs.Prelude.{ℕ, ◌+◌, ◌*◌, ◌/◌, ◌≡◌, Bool, List, [], ◌∷◌, ◌++◌, leb, ltb, eqb, length, take, drop}
use Rattle.std.specs.Prelude.{get_or}
use Rattle.base.specs.Questions.{Question, ◌else◌, first_no, granted}
use Rattle.base.specs.Lists.{every, overlaid}
use Rattle.base.specs.Digits.{value, digits, halves}
use Rattle.word.specs.Letters.{is_letter}

-- a word has at most 10,000 letters, so its file has at most 5,002 bytes
abbrev pub max_letters : ℕ
max_letters = 10000

abbrev pub max_bytes : ℕ
max_bytes = 5002

-- the number of letters that a file states
abbrev pub stated : List ℕ → ℕ
stated file = value 256 (take 2 file)

-- the number of bytes that a file of n letters needs
abbrev pub needed : ℕ → ℕ
needed n = 2 + (n + 1) / 2

-- the codes: the first half bytes after the two length bytes, as many as the file states
unfoldable pub codes : List ℕ → List ℕ
codes file = take (stated file) (halves (drop 2 file))

-- the half bytes after the codes
unfoldable pub filler : List ℕ → List ℕ
filler file = drop (stated file) (halves (drop 2 file))

-- Word: 9 to 13
abbrev pub word_questions : List ℕ → List Question
word_questions file =
    (leb 2 (length file) else 9)
    ∷ (leb (stated file) max_letters else 10)
    ∷ (eqb (length file) (needed (stated file)) else 11)
    ∷ (every is_letter (codes file) else 12)
    ∷ (every (λ h. eqb h 0) (filler file) else 13)
    ∷ []

unfoldable pub word_answer : List ℕ → ℕ
word_answer file = first_no (word_questions file)

-- the letters of a file are its codes; a refused file has no letters
unfoldable pub letters : List ℕ → List ℕ
letters file = granted (word_answer file) (codes file) []

-- the part that holds the codes; empty on a refusal
unfoldable pub code_part : List ℕ → List ℕ
code_part file = granted (word_answer file) (drop 2 file) []

-- the codes, two to a byte, the earlier in the high half. After an odd number of codes the last half byte is 0
unfoldable pub packed : List ℕ → List ℕ
packed [] = []
packed (a ∷ []) = (a * 16) ∷ []
packed (a ∷ b ∷ cs) = (a * 16 + b) ∷ packed cs

-- the file of a word: the number of letters in 2 bytes, then the packed codes
unfoldable pub word_file : List ℕ → List ℕ
word_file cs = digits 256 2 (length cs) ++ packed cs

-- Any writer of words, before all else: 15
abbrev pub room_question : ℕ → Question
room_question room = leb max_bytes room else 15

-- Writer of words from codes: 15, 10, 12
abbrev pub writer_questions : ℕ → List ℕ → List Question
writer_questions room cs =
    room_question room
    ∷ (leb (length cs) max_letters else 10)
    ∷ (every is_letter cs else 12)
    ∷ []

-- what a writer of words returns, and what it leaves in the output. It returns its answer and the number of bytes
-- written, 0 on a refusal. It leaves the file in the output's first bytes, and the bytes after the file unchanged. On a
-- refusal the output is unchanged
pub record Wrote (questions : List Question) (file before after : List ℕ) (answer bytes : ℕ) : Type 0 where
  pub answer_is : answer ≡ first_no questions
  pub bytes_is : bytes ≡ granted (first_no questions) (length file) 0
  pub output_is : after ≡ granted (first_no questions) (overlaid file before) before

-- what the writer of words from codes returns, and what it leaves in the output
abbrev pub WroteWord : List ℕ → List ℕ → List ℕ → ℕ → ℕ → Type 0
WroteWord cs before after answer bytes =
    Wrote (writer_questions (length before) cs) (word_file cs) before after answer bytes

-- what the word reader returns: the number of the first question answered no, or 0; and the number of letters, 0 on a
-- refusal
pub record Read (file : List ℕ) (answer count : ℕ) : Type 0 where
  pub answer_is : answer ≡ word_answer file
  pub count_is : count ≡ length (letters file)

-- the letter at a place: whether a letter is left there, and its code. The papers do not say which code stands beside
-- "none is left"; the code is 0
pub record LetterAt (file : List ℕ) (place : ℕ) (left : Bool) (code : ℕ) : Type 0 where
  pub left_is : left ≡ ltb place (length (letters file))
  pub code_is : code ≡ get_or (letters file) place 0
