-- The shorter of two word files (document 02, §9): the word's questions are put to the first file and then to the
-- second. The shorter file is given as its own bytes. If both have the same length, it is the first.
use Rattle.std.specs.Prelude.{ℕ, ◌≡◌, cond, List, [], ◌++◌, leb, length}
use Rattle.std.specs.Borrow.{Bor}
use Rattle.base.specs.Questions.{Question, first_no, granted}
use Rattle.word.specs.Words.{word_questions}

-- Shorter: the questions of the first word, then the questions of the second
abbrev pub shorter_questions : List ℕ → List ℕ → List Question
shorter_questions a b = word_questions a ++ word_questions b

unfoldable pub shorter_answer : List ℕ → List ℕ → ℕ
shorter_answer a b = first_no (shorter_questions a b)

-- one of two things that belong to the files a and b: that of the shorter file, that of the first file on a tie
abbrev pub of_shorter : {A : Type 0} → List ℕ → List ℕ → A → A → A
of_shorter a b first second = cond (leb (length a) (length b)) first second

-- the answer, and which file is the shorter: 1 the first, 2 the second, 0 on a refusal
pub record Chose (a b : List ℕ) (answer which : ℕ) : Type 0 where
  pub answer_is : answer ≡ shorter_answer a b
  pub which_is : which ≡ granted (shorter_answer a b) (of_shorter a b 1 2) 0

-- the bytes of the shorter file; none on a refusal
unfoldable pub shorter : List ℕ → List ℕ → List ℕ
shorter a b = granted (shorter_answer a b) (of_shorter a b a b) []

-- on answer 0 the slice that is given is one of the two lent slices, and not a copy of its bytes
abbrev pub IsThatSlice : Bor (List ℕ) → Bor (List ℕ) → Bor (List ℕ) → Type 0
IsThatSlice a b r = shorter_answer a.now b.now ≡ 0 → r.ref_ptr ≡ of_shorter a.now b.now a.ref_ptr b.ref_ptr
