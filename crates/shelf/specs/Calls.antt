-- The calls of a key shelf (document 02, §8 and §14): a publisher loads a key, clears a number, has a slip judged, or
-- starts a new round.
use Rattle.std.specs.Prelude.{ℕ, ◌≡◌, Bool, cond, ◌||◌, List, [], ◌∷◌, ◌++◌, eqb, length}
use Rattle.base.specs.Questions.{Question, ◌else◌, first_no}
use Rattle.word.specs.Words.{codes, word_questions, letters}
use Rattle.key.specs.Keys.{key_questions, key_of}
use Rattle.key.specs.declared.Key.{Key}
use Rattle.slip_digest.specs.Digest.{digest_questions}
use Rattle.slip_verdict.specs.Verdict.{signed, target, matrix_questions}
use Rattle.shelf.specs.Shelves.{is_publisher, has_slot, held, is_held, holding}
use Rattle.shelf.specs.Charges.{admitted, charging, new_round}

-- what a publisher asks for: the key number, and the files; a new round has neither
pub data Work : Type 0 where
  load : ℕ → List ℕ → Work
  clear : ℕ → Work
  judge : ℕ → List ℕ → List ℕ → Work
  round : Work

-- A slip on the chip under a key that was read: the digest's question, the word's, then 36 if the slip is not admitted,
-- and then the verdict, 14 or 0
abbrev pub chip_questions : Bool → Key → List ℕ → List ℕ → List Question
chip_questions admits key digest word =
    digest_questions key.field digest
    ++ (word_questions word
    ++ ((admits else 36) ∷ matrix_questions (signed key (codes word)) (target key digest)))

-- Load: 30, then the key's questions. Clear: 30. Judge: 30, 31, then the questions of the file that is held, and those
-- of the slip under its key. New round: 30.
abbrev pub asked : ℕ → Work → List ℕ → List Question
asked publisher (load number file) shelf = (has_slot publisher number else 30) ∷ key_questions file
asked publisher (clear number) shelf = (has_slot publisher number else 30) ∷ []
asked publisher (judge number digest word) shelf =
    (has_slot publisher number else 30)
    ∷ (is_held (held publisher number shelf) else 31)
    ∷ (key_questions (held publisher number shelf)
    ++ chip_questions (admitted publisher (length (letters word)) shelf) (key_of (held publisher number shelf)) digest
    word)
asked publisher round shelf = (is_publisher publisher else 30) ∷ []

unfoldable pub answer_to : ℕ → Work → List ℕ → ℕ
answer_to publisher work shelf = first_no (asked publisher work shelf)

-- the shelf after work that acts: a slip's letters are charged to its publisher
abbrev pub done : ℕ → Work → List ℕ → List ℕ
done publisher (load number file) shelf = holding publisher number file shelf
done publisher (clear number) shelf = holding publisher number [] shelf
done publisher (judge number digest word) shelf = charging publisher (length (letters word)) shelf
done publisher round shelf = new_round shelf

-- Is the answer a verdict, 0 or 14?
abbrev pub is_verdict : ℕ → Bool
is_verdict answer = eqb answer 0 || eqb answer 14

-- Work acts if it is not refused. Exception: judging acts on 14 too.
abbrev pub acts : Work → ℕ → Bool
acts (load number file) answer = eqb answer 0
acts (clear number) answer = eqb answer 0
acts (judge number digest word) answer = is_verdict answer
acts round answer = eqb answer 0

-- The shelf after a call. A refusal does not change it. Exception: on 14 the letters of the slip are charged.
unfoldable pub after : ℕ → Work → List ℕ → List ℕ
after publisher work shelf =
    cond (acts work (answer_to publisher work shelf)) (done publisher work shelf) shelf

-- what a call gives, and what it leaves of the shelf
pub record Serves (publisher : ℕ) (work : Work) (shelf : List ℕ) (left : List ℕ) (answer : ℕ) : Type 0 where
  pub answer_is : answer ≡ answer_to publisher work shelf
  pub shelf_is : left ≡ after publisher work shelf
