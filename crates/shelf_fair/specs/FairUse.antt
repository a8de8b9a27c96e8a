-- Fair use of the checking chip in a history of the key shelf (document 02, §14): the letters charged to a publisher,
-- computed from the history; the slips that come to 36; the sum that no call breaks.
use Rattle.std.specs.Prelude.{ℕ, ◌+◌, ◌≤◌, ◌≡◌, cond, List, [], ◌∷◌, ◌++◌, eqb, length}
use Rattle.base.specs.Questions.{Question, ◌else◌, first_no}
use Rattle.word.specs.Words.{word_questions, letters}
use Rattle.key.specs.Keys.{key_questions, key_of}
use Rattle.slip_digest.specs.Digest.{digest_questions}
use Rattle.shelf.specs.Shelves.{has_slot, held, is_held}
use Rattle.shelf.specs.Charges.{further, over_by, charged}
use Rattle.shelf.specs.Calls.{Work, load, clear, judge, round, answer_to, acts, after}
use Rattle.shelf_histories.specs.Histories.{Call, shelf_after}

-- The letters charged to a publisher after work that acted. The work is by the publisher `by`, and `earlier` letters
-- were charged before it. A slip's letters are charged to its own publisher. A new round starts at zero.
abbrev pub letters_after : ℕ → ℕ → Work → ℕ → ℕ
letters_after publisher by (load number file) earlier = earlier
letters_after publisher by (clear number) earlier = earlier
letters_after publisher by (judge number digest word) earlier =
    cond (eqb by publisher) (earlier + length (letters word)) earlier
letters_after publisher by round earlier = 0

-- the letters of a publisher's slips that were admitted, with answer 0 or 14, since the round began
unfoldable pub letters_charged : ℕ → List Call → ℕ
letters_charged publisher [] = 0
letters_charged publisher (c ∷ earlier) =
    cond (acts c.work (answer_to c.publisher c.work (shelf_after earlier)))
    (letters_after publisher c.publisher c.work (letters_charged publisher earlier))
    (letters_charged publisher earlier)

-- what a slip is asked before 36: 30, 31, then the questions of the file that is held, the digest's and the word's
abbrev pub before36 : ℕ → ℕ → List ℕ → List ℕ → List ℕ → List Question
before36 publisher number digest word shelf =
    (has_slot publisher number else 30)
    ∷ (is_held (held publisher number shelf) else 31)
    ∷ (key_questions (held publisher number shelf)
    ++ (digest_questions (key_of (held publisher number shelf)).field digest ++ word_questions word))

-- the slip comes to 36: it passes every question before
abbrev pub ComesTo36 : ℕ → ℕ → List ℕ → List ℕ → List ℕ → Type 0
ComesTo36 publisher number digest word shelf = first_no (before36 publisher number digest word shelf) ≡ 0

-- the amounts by which each publisher is over 10,000 sum to at most 10,000
abbrev pub Fair : List ℕ → Type 0
Fair shelf = over_by (charged 1 shelf) + over_by (charged 2 shelf) ≤ further

-- the shelf after calls on any shelf, the latest call first
unfoldable pub later_on : List ℕ → List Call → List ℕ
later_on shelf [] = shelf
later_on shelf (c ∷ earlier) = after c.publisher c.work (later_on shelf earlier)
