-- Move lists and the rewriter. A move list has the number of moves in 2 bytes, then all places in 2 bytes each, then
-- all kinds in 1 byte each. The first move works on the word handed in, each later one on the word that the last one
-- left. One refused move refuses the whole list.
use Rattle.std.specs.Prelude.{ℕ, ◌+◌, ◌*◌, List, [], ◌∷◌, ◌++◌, map, leb, eqb, length, take, get_or}
use Rattle.base.specs.Questions.{Question, ◌else◌}
use Rattle.base.specs.Lists.{values}
use Rattle.base.specs.Digits.{value, part}
use Rattle.word.specs.Words.{codes, word_questions, room_question}
use Rattle.word.specs.Cancellation.{Move}
use Rattle.move_kinds.specs.Kinds.{move}

-- a move of the list: its place and its kind
pub record Step : Type 0 where
  pub place : ℕ
  pub kind : ℕ

-- the move that a place and a kind name, on a word
abbrev pub move_of : Step → List ℕ → Move
move_of s = move s.kind s.place

-- the number of moves that a list states
abbrev pub move_count : List ℕ → ℕ
move_count moves = value 256 (take 2 moves)

-- Move k of the list, counted from 0. All places stand before all kinds.
abbrev pub step_at : List ℕ → ℕ → Step
step_at moves k =
    record {
      place = value 256 (part (2 + 2 * k) 2 moves);
      kind = get_or moves (2 + 2 * move_count moves + k) 0;
    }

-- the moves of a list in order, as many as the list states
abbrev pub steps : List ℕ → List Step
steps moves = map (step_at moves) (values (λ k. k) (move_count moves))

-- The questions move by move. The questions of each move are about the word that the last move left.
unfoldable pub move_questions : List Step → List ℕ → List Question
move_questions [] w = []
move_questions (s ∷ ss) w = (move_of s w).questions ++ move_questions ss (move_of s w).word

-- The word after the moves. Each move works on the word that the last one left.
unfoldable pub word_after : List Step → List ℕ → List ℕ
word_after [] w = w
word_after (s ∷ ss) w = word_after ss (move_of s w).word

-- The codes of the new word, if no question is answered no. Otherwise there is no new word, and the rewriter writes
-- nothing.
abbrev pub rewritten : List ℕ → List ℕ → List ℕ
rewritten word moves = word_after (steps moves) (codes word)

-- Move list: 18, 19, 20
abbrev pub list_questions : List ℕ → List Question
list_questions moves =
    (leb 2 (length moves) else 18)
    ∷ (leb (move_count moves) 4096 else 19)
    ∷ (eqb (length moves) (2 + 3 * move_count moves) else 20)
    ∷ []

-- Rewriter: 15, the word, the move list, then move by move
abbrev pub rewriter_questions : ℕ → List ℕ → List ℕ → List Question
rewriter_questions room word moves =
    room_question room ∷ (word_questions word ++ (list_questions moves ++ move_questions (steps moves) (codes word)))
