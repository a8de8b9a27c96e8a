-- What functions that are no operation of the papers, such as `all_moves`, leave in the rewriter's working memory. The
-- memory is a row of codes, and the word is the row's first codes. A function stops at the first refused move and
-- leaves the word that this move was tried on.
use Rattle.std.specs.Prelude.{ℕ, ◌≤◌, ◌≡◌, List, [], ◌∷◌, ◌++◌, length, take, drop}
use Rattle.base.specs.Questions.{first_no, granted}
use Rattle.word.specs.Cancellation.{Move}
use Rattle.move_kinds.specs.Rewriting.{Step, move_of}

-- an answer, and the word at that point
pub record Outcome : Type 0 where
  pub answer : ℕ
  pub word : List ℕ

-- What one move gives: 0 and the new word. On a refusal: the number of the first question answered no, and the word
-- unchanged.
abbrev pub outcome : Move → List ℕ → Outcome
outcome m w = record { answer = first_no m.questions; word = granted (first_no m.questions) m.word w }

-- What moves give, one after another: 0 and the new word. On a refusal: the number of the first question answered no,
-- and the word that the refused move was tried on.
unfoldable pub moved : List Step → List ℕ → Outcome
moved [] w = record { answer = 0; word = w }
moved (s ∷ ss) w =
    granted (first_no (move_of s w).questions) (moved ss (move_of s w).word)
    (record { answer = first_no (move_of s w).questions; word = w })

-- an outcome held in a row: the answer, and the word as the row's first `letters` codes
pub record Leaves (o : Outcome) (row : List ℕ) (answer letters : ℕ) : Type 0 where
  pub answer_is : answer ≡ o.answer
  pub letters_in : letters ≤ length row
  pub word_is : take letters row ≡ o.word

-- a move of the word that the first n codes of a row hold
abbrev pub Makes : (List ℕ → Move) → ℕ → List ℕ → List ℕ → ℕ → ℕ → Type 0
Makes m n before after answer letters = Leaves (outcome (m (take n before)) (take n before)) after answer letters

-- a row for 10,000 codes that holds a word of n letters
pub record Holds (n : ℕ) (row : List ℕ) : Type 0 where
  pub short : n ≤ 10000
  pub room : length row ≡ 10000

-- two letters inserted before a place of a word
abbrev pub insert_two : ℕ → ℕ → ℕ → List ℕ → List ℕ
insert_two c d place w = take place w ++ (c ∷ d ∷ drop place w)
