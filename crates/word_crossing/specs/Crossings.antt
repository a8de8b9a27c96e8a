-- How often two strands cross (document 02, §2): the signed number of the letters of a word that swap just these two
-- labels. This file also lists the 28 pairs of labels. Places count from 0 here.
use Rattle.std.specs.Prelude.{ℕ, zero, suc, ◌+◌, ◌≡◌, Bool, cond, not, ◌&&◌, ◌||◌, List, [], ◌∷◌, ◌++◌, map, ltb, eqb}
use Rattle.std.specs.Prelude.{get_or, replicate, ℤ, pos, ◌+ℤ◌}
use Rattle.base.specs.Questions.{Question, ◌else◌, first_no, granted}
use Rattle.word.specs.Letters.{generator}
use Rattle.word.specs.Exponent.{exponent_sum}
use Rattle.word.specs.Strands.{strands_in_order, swapped}
use Rattle.word.specs.Words.{codes, word_questions, word_answer}
pub use Rattle.word_crossing.specs.declared.Two.{Two}

-- are p and q just the labels a and b, either way round?
abbrev pub both : ℕ → ℕ → ℕ → ℕ → Bool
both a b p q = (eqb p a && eqb q b) || (eqb p b && eqb q a)

-- does a letter swap just a and b in this list: do its two places hold them?
unfoldable pub swaps : ℕ → ℕ → List ℕ → ℕ → Bool
swaps a b labels c = both a b (get_or labels (generator c) 0) (get_or labels (generator c + 1) 0)

-- the letters of a word that swap just a and b. Each letter acts on the list that the letter before it left
unfoldable pub swapping : ℕ → ℕ → List ℕ → List ℕ → List ℕ
swapping a b labels [] = []
swapping a b labels (c ∷ w) =
    let rest : List ℕ = swapping a b (swapped (generator c) labels) w in cond (swaps a b labels c) (c ∷ rest) rest

-- the signed number of the letters that swap just a and b, from any list: plus 1 for a generator, minus 1 for an
-- inverse
unfoldable pub crossings_from : List ℕ → ℕ → ℕ → List ℕ → ℤ
crossings_from labels a b w = exponent_sum (swapping a b labels w)

-- how often the labels a and b cross: the signed number of letters, from the starting list, that swap just these two
unfoldable pub crossings : ℕ → ℕ → List ℕ → ℤ
crossings a b w = crossings_from strands_in_order a b w

-- Crossings: the word, then: are the labels at most 7, and different? 27
abbrev pub crossing_questions : List ℕ → ℕ → ℕ → List Question
crossing_questions word a b = word_questions word ++ ((ltb a 8 && ltb b 8 && not (eqb a b) else 27) ∷ [])

-- an answer, and beside it the signed number, which is 0 on a refusal
pub record Crosses (word : List ℕ) (a b answer : ℕ) (number : ℤ) : Type 0 where
  pub answer_is : answer ≡ first_no (crossing_questions word a b)
  pub number_is : number ≡ granted (first_no (crossing_questions word a b)) (crossings a b (codes word)) (pos 0)

-- the pairs of label a with each of the n labels from b on
unfoldable pub with_each : ℕ → ℕ → ℕ → List Two
with_each a b zero = []
with_each a b (suc n) = record { smaller = a; larger = b } ∷ with_each a (suc b) n

-- the pairs of n labels from a on, in increasing order
unfoldable pub pairs_from : ℕ → ℕ → List Two
pairs_from a zero = []
pairs_from a (suc n) = with_each a (suc a) n ++ pairs_from (suc a) n

-- the 28 pairs of the labels 0 to 7
abbrev pub all_pairs : List Two
all_pairs = pairs_from 0 8

-- how often the labels of each pair cross
unfoldable pub all_crossings : List ℕ → List ℤ
all_crossings w = map (λ p. crossings p.smaller p.larger w) all_pairs

-- the word's answer, and beside it the 28 numbers, which are zeros on a refusal
pub record CrossesAll (word : List ℕ) (answer : ℕ) (numbers : List ℤ) : Type 0 where
  pub answer_is : answer ≡ word_answer word
  pub numbers_are : numbers ≡ granted (word_answer word) (all_crossings (codes word)) (replicate 28 (pos 0))

-- the sum of the numbers of some pairs
unfoldable pub together : (Two → ℤ) → List Two → ℤ
together f [] = pos 0
together f (p ∷ ps) = f p +ℤ together f ps
