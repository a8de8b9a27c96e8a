-- The verdict: a slip whose key, digest and word pass their questions is accepted if and only if the matrix reached
-- from Pub(S) by its word equals the matrix reached from the identity by the encoded digest, times the matrix of
-- Pub(S'), over the key's own field. Lists are not compared.
use Rattle.std.specs.Prelude.{ℕ, List, [], ◌∷◌, ◌++◌}
use Rattle.base.specs.Questions.{Question, ◌else◌, first_no}
use Rattle.base.specs.Lists.{equal}
use Rattle.field.specs.Binary.{Operations}
use Rattle.field.specs.Fields.{operations}
use Rattle.word.specs.Words.{codes, word_questions}
use Rattle.matrix.specs.Product.{matrix_product}
use Rattle.pair.specs.declared.Pair.{Pair}
use Rattle.pair.specs.Action.{word_on, start}
use Rattle.key.specs.Keys.{key_questions, key_of}
use Rattle.key.specs.declared.Key.{Key}
use Rattle.slip_digest.specs.Digest.{digest_questions, encoded}

-- over any field and T-values: the matrix reached from Pub(S) by the signature's letters
unfoldable pub signed_over : Operations → List ℕ → Pair → List ℕ → List ℕ
signed_over F ts p w = (word_on F ts w p).matrix

-- over any field: the matrix reached from the identity by the encoded digest, times the matrix of Pub(S')
unfoldable pub target_over : Operations → Key → List ℕ → List ℕ
target_over F key digest = matrix_product F (word_on F key.t_values (encoded digest) start).matrix key.second

-- the two matrices of the verdict, over the key's own field
abbrev pub signed : Key → List ℕ → List ℕ
signed key w = signed_over (operations key.field) key.t_values key.pair w

abbrev pub target : Key → List ℕ → List ℕ
target key digest = target_over (operations key.field) key digest

-- Are the matrices equal? 14
abbrev pub matrix_questions : List ℕ → List ℕ → List Question
matrix_questions first second = (equal first second else 14) ∷ []

-- A slip under a key that was read: the digest's question, over the key's field, the word's, and 14
abbrev pub slip_questions : Key → List ℕ → List ℕ → List Question
slip_questions key digest word =
    digest_questions key.field digest
    ++ (word_questions word ++ matrix_questions (signed key (codes word)) (target key digest))

-- Verdict: the key's questions, then those of the slip under the key that the file holds
abbrev pub verdict_questions : List ℕ → List ℕ → List ℕ → List Question
verdict_questions key digest word = key_questions key ++ slip_questions (key_of key) digest word

unfoldable pub verdict : List ℕ → List ℕ → List ℕ → ℕ
verdict key digest word = first_no (verdict_questions key digest word)
