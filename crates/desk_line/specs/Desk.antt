-- The line that the desk writes for an answer, and what reading a file gives.
use Rattle.std.specs.Prelude.{ℕ, ◌≤◌, ◌≡◌, false, List, [], ◌∷◌}
use Rattle.text.specs.Decimal.{decimal}
use Rattle.text.specs.Texts.{line, TellsIn}
use Rattle.desk_line.specs.declared.Got.{Got}

-- "answer"
abbrev pub answer_word : List ℕ
answer_word = 97 ∷ 110 ∷ 115 ∷ 119 ∷ 101 ∷ 114 ∷ []

-- "answer ", the decimal number, a line end
unfoldable pub answer_line : ℕ → List ℕ
answer_line n = line (answer_word ∷ decimal n ∷ [])

-- "no answer", a line end
unfoldable pub no_answer_line : List ℕ
no_answer_line = line ((110 ∷ 111 ∷ []) ∷ answer_word ∷ [])

-- a buffer of 11 bytes that starts with a text, and zeros follow; the line of every answer fits it
abbrev pub Tells : List ℕ → ℕ → List ℕ → Type 0
Tells = TellsIn 11

-- What reading into a buffer gives: at most as many bytes as the buffer has, and none if the file could not be read.
pub record GotOf (size : ℕ) (got : Got) : Type 0 where
  pub fits : got.bytes ≤ size
  pub none : got.read ≡ false → got.bytes ≡ 0
