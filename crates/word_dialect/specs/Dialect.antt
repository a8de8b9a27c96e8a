-- The Y dialect: words in source 000's Y generators y1 to y7. A Y letter has the code of the Artin letter with its
-- number and sign, and a Y word is packed in a file like any word. Parts of 7, in order, group the generators 1 to 7.
-- Here generators count from 0, as in codes.
use Rattle.std.specs.Prelude.{ℕ, zero, suc, ◌+◌, ◌-◌, Bool, true, false, cond, ◌&&◌, List, [], ◌∷◌, ◌++◌, leb, ltb}
use Rattle.std.specs.Prelude.{eqb, length}
use Rattle.base.specs.Questions.{Question, ◌else◌}
use Rattle.base.specs.Lists.{every, values_from}
use Rattle.word.specs.Letters.{is_inverse, generator, inverse}
use Rattle.word.specs.Words.{max_letters, codes, room_question, word_questions, word_file, Wrote}

-- ---- parts

-- the sum of the parts, as a number
unfoldable pub part_sum : List ℕ → ℕ
part_sum [] = 0
part_sum (p ∷ parts) = p + part_sum parts

-- parts of 7: not empty, without a zero, with the sum 7
abbrev pub are_parts : List ℕ → Bool
are_parts parts = ltb 0 (length parts) && (every (λ p. ltb 0 p) parts && eqb (part_sum parts) 7)

-- How many generators come after generator g in its part. It is 0 if g lies in no part.
unfoldable pub following : List ℕ → ℕ → ℕ
following [] g = 0
following (p ∷ parts) g = cond (ltb g p) (p - suc g) (following parts (g - p))

-- ---- words

-- the inverse of a word: the inverse of each letter, from the last letter to the first
unfoldable pub inverted : List ℕ → List ℕ
inverted [] = []
inverted (c ∷ w) = inverted w ++ (inverse c ∷ [])

-- each letter of a word becomes a word, one after another
unfoldable pub each_by : (ℕ → List ℕ) → List ℕ → List ℕ
each_by f [] = []
each_by f (c ∷ w) = f c ++ each_by f w

-- ---- the two conversions: true stands for Artin to Y, false for Y to Artin

abbrev pub to_y : Bool
to_y = true

abbrev pub from_y : Bool
from_y = false

-- What generator g becomes, if n generators come after it in its part. b_k becomes y_k alone at the part's end, and y_k
-- then the inverse of y_(k+1) elsewhere. y_k becomes b_k up to the part's end.
unfoldable pub run_of : Bool → ℕ → ℕ → List ℕ
run_of true g zero = g ∷ []
run_of true g (suc n) = g ∷ inverse (g + 1) ∷ []
run_of false g n = values_from (λ c. c) g (suc n)

-- an inverse letter gives the inverse run
unfoldable pub signed_run : Bool → ℕ → ℕ → List ℕ
signed_run way c n = cond (is_inverse c) (inverted (run_of way (generator c) n)) (run_of way (generator c) n)

-- what a letter becomes
unfoldable pub run : Bool → List ℕ → ℕ → List ℕ
run way parts c = signed_run way c (following parts (generator c))

-- A word, letter by letter. Nothing is cancelled. `converted from_y parts w` is the Artin word of a Y word: it says
-- what
-- the Y word means.
unfoldable pub converted : Bool → List ℕ → List ℕ → List ℕ
converted way parts w = each_by (run way parts) w

-- ---- the operations

-- Has the converted word at most 10,000 letters? 34
abbrev pub long_question : Bool → List ℕ → List ℕ → List Question
long_question way w parts = (leb (length (converted way parts w)) max_letters else 34) ∷ []

-- Either conversion: 15, the word, 33, 34
abbrev pub dialect_questions : Bool → ℕ → List ℕ → List ℕ → List Question
dialect_questions way room word parts =
    room_question room ∷ (word_questions word ++ ((are_parts parts else 33) ∷ long_question way (codes word) parts))

-- what a conversion returns, and what it leaves in the output
abbrev pub WroteConverted : Bool → List ℕ → List ℕ → List ℕ → List ℕ → ℕ → ℕ → Type 0
WroteConverted way word parts before after answer bytes =
    Wrote (dialect_questions way (length before) word parts) (word_file (converted way parts (codes word))) before after
    answer bytes
