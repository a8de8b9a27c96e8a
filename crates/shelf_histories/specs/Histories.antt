-- Histories of a key shelf (document 02, §8 and §14): calls by any publisher number, begun at the empty shelf. The
-- latest call stands first.
use Rattle.std.specs.Prelude.{ℕ, Bool, cond, List, [], ◌∷◌, map, eqb}
use Rattle.base.specs.Questions.{◌else◌, first_no}
use Rattle.slip_verdict.specs.Verdict.{verdict_questions}
use Rattle.shelf.specs.Shelves.{empty_shelf, has_slot, held, is_held}
use Rattle.shelf.specs.Calls.{Work, load, clear, judge, round, answer_to, acts, after}

pub record Call : Type 0 where
  pub publisher : ℕ
  pub work : Work

-- the shelf after a history
unfoldable pub shelf_after : List Call → List ℕ
shelf_after [] = empty_shelf
shelf_after (c ∷ earlier) = after c.publisher c.work (shelf_after earlier)

-- the calls that one publisher made
unfoldable pub own : ℕ → List Call → List Call
own publisher [] = []
own publisher (c ∷ earlier) = cond (eqb c.publisher publisher) (c ∷ own publisher earlier) (own publisher earlier)

-- a call's work, and the answer that it got
pub record Answered : Type 0 where
  pub work : Work
  pub answer : ℕ

-- what a publisher sees of a history: its own calls, each with the answer
unfoldable pub seen : ℕ → List Call → List Answered
seen publisher [] = []
seen publisher (c ∷ earlier) =
    cond (eqb c.publisher publisher)
    (record { work = c.work; answer = answer_to c.publisher c.work (shelf_after earlier) }
    ∷ seen publisher earlier)
    (seen publisher earlier)

-- The answer without the limit on letters, as §8 has it: a slip that is judged gets 30, 31 or the verdict.
abbrev pub unlimited : ℕ → Work → List ℕ → ℕ
unlimited publisher (load number file) shelf = answer_to publisher (load number file) shelf
unlimited publisher (clear number) shelf = answer_to publisher (clear number) shelf
unlimited publisher (judge number digest word) shelf =
    first_no ((has_slot publisher number else 30) ∷ (is_held (held publisher number shelf) else 31)
    ∷ verdict_questions (held publisher number shelf) digest word)
unlimited publisher round shelf = answer_to publisher round shelf

-- what a publisher would see of a history without the limit
unfoldable pub unlimited_seen : ℕ → List Call → List Answered
unlimited_seen publisher [] = []
unlimited_seen publisher (c ∷ earlier) =
    cond (eqb c.publisher publisher)
    (record { work = c.work; answer = unlimited c.publisher c.work (shelf_after earlier) }
    ∷ unlimited_seen publisher earlier)
    (unlimited_seen publisher earlier)

-- at which of the calls the answer is 36
abbrev pub where36 : List Answered → List Bool
where36 calls = map (λ a. eqb a.answer 36) calls

-- The file under a key number after accepted work, if it was `earlier` before. Loading the number puts the new file
-- there, and clearing it puts none there.
abbrev pub file_after : ℕ → Work → List ℕ → List ℕ
file_after number (load n file) earlier = cond (eqb n number) file earlier
file_after number (clear n) earlier = cond (eqb n number) [] earlier
file_after number (judge n digest word) earlier = earlier
file_after number round earlier = earlier

-- The file of the last accepted load of a key number, if the number was not cleared since. Otherwise none.
unfoldable pub last_load : ℕ → List Answered → List ℕ
last_load number [] = []
last_load number (a ∷ earlier) =
    cond (acts a.work a.answer) (file_after number a.work (last_load number earlier)) (last_load number earlier)
