-- The contracts shut out wrong programs, each by two files on which it differs: the second file on a tie, the longer
-- file, the second file's questions first, and the bytes of the other file.
use Prim.Native.Nat.{ℕ}
use mathlib.Core.Path.{◌≡◌, refl}
use mathlib.Core.List.{List, [], ◌∷◌}
use native.Mathlib.Omega.{arith}
use Rattle.base.specs.Questions.{first_no, granted}
use Rattle.base.specs.Lists.{every, equal}
use Rattle.base.specs.Digits.{value, halves}
use Rattle.base.proofs.ListLaws.{true_false, equal_of}
use Rattle.word.specs.Words.{codes, filler}
use Rattle.word_shorter.specs.Shorter.{shorter_answer, Chose, shorter}

-- the words b1 and b2, each of 3 bytes, and the empty word, of 2
abbrev one : List ℕ
one = 0 ∷ 1 ∷ 0 ∷ []

abbrev two : List ℕ
two = 0 ∷ 1 ∷ 16 ∷ []

abbrev empty : List ℕ
empty = 0 ∷ 0 ∷ []

-- b1 and b2 tie, so the first is given
pub second_on_a_tie : {answer : ℕ} → Chose one two answer 2 → ⊥
unfolding shorter_answer first_no granted every value codes halves filler
second_on_a_tie c = let e : ◌≡◌ {A = ℕ} 2 1 = c.which_is in omega arith

-- the empty word is shorter than b1, so the second is given
pub the_longer : {answer : ℕ} → Chose one empty answer 1 → ⊥
unfolding shorter_answer first_no granted every value codes halves filler
the_longer c = let e : ◌≡◌ {A = ℕ} 1 2 = c.which_is in omega arith

-- a first file of one byte and a second file without its codes: 9, and not 11
pub second_asked_first : {which : ℕ} → Chose (0 ∷ []) (0 ∷ 1 ∷ []) 11 which → ⊥
unfolding shorter_answer first_no
second_asked_first c = let e : ◌≡◌ {A = ℕ} 11 9 = c.answer_is in omega arith

-- the bytes are not those of b2 on a tie with b1, and not those of b1 beside the empty word
pub bytes_of_the_second : shorter one two ≡ two → ⊥
unfolding shorter shorter_answer first_no granted every value codes halves filler equal
bytes_of_the_second e = true_false (equal one two) (equal_of e) refl

pub bytes_of_the_longer : shorter one empty ≡ one → ⊥
unfolding shorter shorter_answer first_no granted every value codes halves filler equal
bytes_of_the_longer e = true_false (equal empty one) (equal_of e) refl
