-- A reader of words keeps the file and the next letter's place. This file defines the file that a reader keeps, the
-- letter at a place, the next place, and the codes that are read as long as a letter is left.
use Rattle.std.specs.Prelude.{ℕ, zero, suc, ◌+◌, ◌≡◌, cond, List, [], ◌∷◌, ltb, length, get_or}
use Rattle.base.specs.Questions.{granted}
use Rattle.word.specs.Words.{codes, word_answer}
use Rattle.word.specs.declared.Letter.{Letter}
use Rattle.word_reader.specs.declared.WordReader.{WordReader}

-- the file that a reader keeps: the file handed in, or on a refusal the empty file, which has no letters
unfoldable pub opened : List ℕ → List ℕ
opened file = granted (word_answer file) file []

-- the letter at a place: whether a letter is left there, and its code, or 0 if none is left
abbrev pub read_at : List ℕ → ℕ → Letter
read_at file at =
    record {
      left = ltb at (length (codes file));
      code = get_or (codes file) at 0;
    }

-- the place after one move: past the last letter the reader stays
abbrev pub place_behind : List ℕ → ℕ → ℕ
place_behind file at = cond (ltb at (length (codes file))) (at + 1) at

-- the place after k moves from the first letter
unfoldable pub place_after_turns : List ℕ → ℕ → ℕ
place_after_turns file zero = 0
place_after_turns file (suc k) = place_behind file (place_after_turns file k)

-- the codes read from a place on. The reader moves on as long as a letter is left, at most n times
unfoldable pub read_from : List ℕ → ℕ → ℕ → List ℕ
read_from file zero at = []
read_from file (suc n) at =
    cond (read_at file at).left ((read_at file at).code ∷ read_from file n (place_behind file at)) []

-- r 0 is a reader opened on the file, and each r (k + 1) is r k moved on. The contracts of `open` and `moved_on` give
-- these four facts
pub record MovesOn (file : List ℕ) (r : ℕ → WordReader) : Type 0 where
  pub opened_on : (r 0).file.now ≡ opened file
  pub opened_at : (r 0).at ≡ 0
  pub same_file : (k : ℕ) → (r (suc k)).file ≡ (r k).file
  pub next_at : (k : ℕ) → (r (suc k)).at ≡ place_behind (r k).file.now (r k).at
