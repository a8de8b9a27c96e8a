-- Cloaking words inserted in a word (document 02, §12), alone and among moves. The word is a list of codes, a word to
-- insert is a file, and places count from 0.
use Rattle.std.specs.Prelude.{ℕ, ◌+◌, ◌≤◌, ◌≡◌, true, List, [], ◌∷◌, ◌++◌, length, take, drop}
use Rattle.base.specs.Questions.{first_no}
use Rattle.field.specs.Fields.{operations}
use Rattle.word.specs.Words.{codes, max_letters}
use Rattle.pair.specs.Action.{word_on}
use Rattle.key.specs.Keys.{key_field, key_of}
use Rattle.slip_cloaking.specs.Cloaking.{Cloaks}
use Rattle.move_kinds.specs.Rewriting.{Step, move_of}

-- the word v inserted in the word w before a place
abbrev pub inserted_at : ℕ → List ℕ → List ℕ → List ℕ
inserted_at place v w = take place w ++ (v ++ drop place w)

-- the list reached at a place of the word w, from Pub(S) of a key file
abbrev pub reached_at : List ℕ → ℕ → List ℕ → List ℕ
reached_at key place w =
    (word_on (operations (key_field key)) (key_of key).t_values (take place w) (key_of key).pair).labels

-- a place, and the file of the word to insert there
pub record Insertion : Type 0 where
  pub place : ℕ
  pub file : List ℕ

-- the word after an insertion
abbrev pub inserted_by : Insertion → List ℕ → List ℕ
inserted_by i w = inserted_at i.place (codes i.file) w

-- The insertion hides its word: its place is in the word or at its end, the inserted word cloaks under the key for the
-- list reached there (by the answer and the yes of the cloaking operation), and the new word has at most 10,000 letters
pub record Hides (key : List ℕ) (i : Insertion) (w : List ℕ) : Type 0 where
  pub in_word : i.place ≤ length w
  pub cloaks : Cloaks key (reached_at key i.place w) i.file 0 true
  pub few : length w + length (codes i.file) ≤ max_letters

-- insertions one after another, each in the word that the last one left
unfoldable pub insertions : List Insertion → List ℕ → List ℕ
insertions [] w = w
insertions (i ∷ is) w = insertions is (inserted_by i w)

-- each insertion hides its word in the word that the last one left
unfoldable pub HidesAll : List ℕ → List Insertion → List ℕ → Type 0
HidesAll key [] w = Unit {0}
HidesAll key (i ∷ is) w = Hides key i w × HidesAll key is (inserted_by i w)

-- a change of a word: an insertion, or a move of a move list
pub data Alteration : Type 0 where
  inserting : Insertion → Alteration
  moving : Step → Alteration

-- the word after an alteration
abbrev pub altered : Alteration → List ℕ → List ℕ
altered (inserting i) w = inserted_by i w
altered (moving s) w = (move_of s w).word

-- the alteration may be made: the insertion hides its word, or no question of the move is answered no
abbrev pub Allowed : List ℕ → Alteration → List ℕ → Type 0
Allowed key (inserting i) w = Hides key i w
Allowed key (moving s) w = first_no (move_of s w).questions ≡ 0

-- alterations one after another, in any order, each of the word that the last one left
unfoldable pub alterations : List Alteration → List ℕ → List ℕ
alterations [] w = w
alterations (c ∷ cs) w = alterations cs (altered c w)

-- each alteration may be made on the word that the last one left
unfoldable pub AllowedAll : List ℕ → List Alteration → List ℕ → Type 0
AllowedAll key [] w = Unit {0}
AllowedAll key (c ∷ cs) w = Allowed key c w × AllowedAll key cs (altered c w)
