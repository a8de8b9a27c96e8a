-- Cloaking: a word cloaks for a list when the identity matrix with that list, multiplied by the word under the key's
-- T-values, comes back unchanged, list included.
use Rattle.std.specs.Prelude.{ℕ, ◌≡◌, Bool, false, ◌&&◌, List, ◌∷◌, ◌++◌, eqb, length}
use Rattle.base.specs.Questions.{Question, ◌else◌, first_no, granted}
use Rattle.base.specs.Lists.{equal}
use Rattle.field.specs.Binary.{Operations}
use Rattle.field.specs.Fields.{operations}
use Rattle.word.specs.Words.{codes, word_questions}
use Rattle.pair.specs.declared.Pair.{Pair}
use Rattle.pair.specs.Action.{word_on, identity_with}
use Rattle.word.specs.Strands.{is_order}
use Rattle.key.specs.Keys.{key_field, key_questions, key_of}

-- matrix and list are the same
unfoldable pub same_pair : Pair → Pair → Bool
same_pair p q = equal p.matrix q.matrix && equal p.labels q.labels

-- over a field, the identity matrix with the list comes back from the word unchanged, list included
unfoldable pub does_come_back : Operations → List ℕ → List ℕ → List ℕ → Bool
does_come_back F ts labels w = same_pair (word_on F ts w (identity_with labels)) (identity_with labels)

-- is the list 8 bytes, 0 to 7 each once?
abbrev pub is_list : List ℕ → Bool
is_list labels = eqb (length labels) 8 && is_order labels

-- Cloaking: the key's questions, 25, the word's
abbrev pub cloak_questions : List ℕ → List ℕ → List ℕ → List Question
cloak_questions key labels word = key_questions key ++ ((is_list labels else 25) ∷ word_questions word)

-- an answer, and beside it yes or no, which is no on a refusal
pub record Cloaks (key labels word : List ℕ) (answer : ℕ) (yes : Bool) : Type 0 where
  pub answer_is : answer ≡ first_no (cloak_questions key labels word)
  pub yes_is : yes
      ≡ granted (first_no (cloak_questions key labels word))
      (does_come_back (operations (key_field key)) (key_of key).t_values labels (codes word)) false
