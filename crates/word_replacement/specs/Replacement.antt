-- Pair replacement, for parts 4 and 3: the first row of Appendix A that holds the two letters at a place of a Y word
-- says what these letters become.
use Rattle.std.specs.Prelude.{ℕ, ◌+◌, ◌≡◌, List, [], ◌∷◌, ◌++◌, leb, length, take, drop, get_or}
use Rattle.base.specs.Questions.{Question, ◌else◌}
use Rattle.word.specs.Words.{max_letters, codes, room_question, word_questions, word_file, Wrote}
use Rattle.braid_same.specs.SameBraid.{SameBraid}
use Rattle.braid_relations.specs.Relations.{artin, relations, replacement}

-- the word with the pair at a place replaced
unfoldable pub pair_replaced : ℕ → List ℕ → List ℕ
pair_replaced place w =
    take place w ++ (replacement relations (get_or w place 0) (get_or w (place + 1) 0) ++ drop (place + 2) w)

-- Has the word with the pair replaced at most 10,000 letters? 34
abbrev pub grown_question : List ℕ → ℕ → List Question
grown_question w place = (leb (length (pair_replaced place w)) max_letters else 34) ∷ []

-- Pair replacement: 15, the word, 22 if two letters do not stand at the place, 34
abbrev pub replacement_questions : ℕ → List ℕ → ℕ → List Question
replacement_questions room word place =
    room_question room
    ∷ (word_questions word ++ ((leb (place + 2) (length (codes word)) else 22) ∷ grown_question (codes word) place))

-- what pair replacement returns, and what it leaves in the output. On answer 0 the new Y word, turned into Artin
-- letters, is the same braid as the old one.
pub record ReplacedPair (word : List ℕ) (place : ℕ) (before after : List ℕ) (answer bytes : ℕ) : Type 0 where
  pub wrote : Wrote (replacement_questions (length before) word place) (word_file (pair_replaced place (codes word)))
      before after answer bytes
  pub keeps : answer ≡ 0 → SameBraid (artin (codes word)) (artin (codes (take bytes after)))
