-- The verdict in two halves (document 02, §4). The first takes key and digest and gives a half: the key's field, the
-- T-values, Pub(S) and the target matrix, with which signatures are compared. The second takes a half and a signature,
-- which is a copy of the slip. A caller may have made the half.
use Rattle.std.specs.Prelude.{ℕ, ◌≡◌, List, [], ◌∷◌, ◌++◌, replicate}
use Rattle.base.specs.Questions.{Question, ◌else◌, first_no, granted}
use Rattle.field.specs.Fields.{operations}
use Rattle.field.specs.declared.Field.TheVariants.{Gf32}
use Rattle.word.specs.Words.{codes, word_questions}
use Rattle.pair.specs.PairQuestions.{pair_questions, zero_pair}
use Rattle.key.specs.Keys.{both_invertible, key_questions, key_of}
use Rattle.key.specs.declared.Key.{Key}
use Rattle.slip_digest.specs.Digest.{digest_questions}
use Rattle.slip_verdict.specs.declared.Half.{Half}
use Rattle.slip_verdict.specs.Verdict.{signed_over, target, matrix_questions}

-- the half of a key that was read and a digest
abbrev pub half_of : Key → List ℕ → Half
half_of key digest =
    record { field = key.field; t_values = key.t_values; pair = key.pair; target = target key digest }

-- the half of a refusal: its zeros name the field with 32 elements
unfoldable pub zero_half : Half
zero_half = record { field = Gf32; t_values = replicate 8 0; pair = zero_pair; target = replicate 64 0 }

-- First half: the key's questions, then 8 for the digest that goes with the key
abbrev pub first_half_questions : List ℕ → List ℕ → List Question
first_half_questions key digest = key_questions key ++ digest_questions (key_of key).field digest

-- the first half's answer, and the half that it gives; on a refusal the half is all zeros
pub record MakesHalf (key digest : List ℕ) (answer : ℕ) (half : Half) : Type 0 where
  pub answer_is : answer ≡ first_no (first_half_questions key digest)
  pub half_is : half ≡ granted (first_no (first_half_questions key digest)) (half_of (key_of key) digest) zero_half

-- A half that is handed in: 17 for T-values and the entries of both matrices, 4, 6, then 26 for both matrices
abbrev pub half_questions : Half → List Question
half_questions h =
    pair_questions h.field h.t_values h.pair h.target
    ++ ((both_invertible h.field h.pair.matrix h.target else 26) ∷ [])

-- over the half's field, the matrix reached from its Pub(S) by the signature's letters
abbrev pub signed_by : Half → List ℕ → List ℕ
signed_by h w = signed_over (operations h.field) h.t_values h.pair w

-- A copy of the slip under a half: the word's questions, and 14
abbrev pub copy_questions : Half → List ℕ → List Question
copy_questions h word = word_questions word ++ matrix_questions (signed_by h (codes word)) h.target

-- Second half: the half's questions, then those of the copy
abbrev pub second_half_questions : Half → List ℕ → List Question
second_half_questions h word = half_questions h ++ copy_questions h word
