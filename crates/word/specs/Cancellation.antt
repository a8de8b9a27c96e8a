-- Moves on words, as lists of codes. A move asks questions. If all are passed, it leaves a new word.
use Rattle.std.specs.Prelude.{ℕ, ◌+◌, ◌≡◌, List, [], ◌∷◌, ◌++◌, leb, eqb, length, take, drop, get_or}
use Rattle.base.specs.Questions.{Question, ◌else◌, first_no}
use Rattle.word.specs.Letters.{inverse}

-- the questions of a move, and the word that it leaves
pub record Move : Type 0 where
  pub questions : List Question
  pub word : List ℕ

-- Kind 1 removes a letter and the inverse right after it. The answer is 22 if fewer than two letters stand from its
-- place on, 23 if the second letter is not the inverse of the first
abbrev pub removal : ℕ → List ℕ → Move
removal place w =
    record {
      questions =
          (leb (place + 2) (length w) else 22)
          ∷ (eqb (get_or w (place + 1) 0) (inverse (get_or w place 0)) else 23)
          ∷ [];
      word = take place w ++ drop (place + 2) w;
    }

-- cancellations lead from the first word to the second: accepted moves of kind 1, one after another
pub data Cancels : List ℕ → List ℕ → Type 0 where
  done : {w : List ℕ} → Cancels w w
  then : {w v : List ℕ} (place : ℕ) → first_no (removal place w).questions ≡ 0 → Cancels (removal place w).word v
      → Cancels w v
