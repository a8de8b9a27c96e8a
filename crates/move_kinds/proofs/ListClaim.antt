-- What a move list keeps as a whole, of any number of moves down to none, if no move is refused.
use Prim.Native.Nat.{ℕ, ◌≤◌}
use mathlib.Core.Path.{◌≡◌}
use mathlib.Core.List.{List, [], ◌∷◌}
use native.Mathlib.Omega.{arith}
use lib.ListN.{length}
use Rattle.base.specs.Questions.{first_no}
use Rattle.base.proofs.QuestionLaws.{both_passed}
use Rattle.word.specs.Words.{codes, word_answer}
use Rattle.word.proofs.LetterLaws.{Lettered}
use Rattle.word.proofs.ReadLaws.{accepted_word}
use Rattle.move_kinds.specs.Rewriting.{Step, move_of, steps, move_questions, word_after, rewritten}
use Rattle.braid_same.proofs.Laws.{same_lettered, same_none, same_then}
use Rattle.move_kinds.proofs.MoveLaws.{Kept, move_kept}
use Rattle.move_kinds.proofs.MoveByMove.{move_numbered}

pub moves_kept : (ss : List Step) (w : List ℕ) → Lettered w → length w ≤ 10000 → first_no (move_questions ss w) ≡ 0
    → Kept w (word_after ss w)
unfolding move_questions word_after
moves_kept [] w e few a = record { same = same_none w; short = few }
moves_kept (s ∷ ss) w e few a =
    let p =
    both_passed (move_of s w).questions (move_questions ss (move_of s w).word)
    (move_numbered s.kind s.place w) a in
    let one : Kept w (move_of s w).word = move_kept w e few s.place s.kind p.0 in
    let rest = moves_kept ss (move_of s w).word (same_lettered one.same e) one.short p.1 in
    record { same = same_then one.same rest.same; short = rest.short }

-- from the file of an accepted word to the new word: what the move list keeps
pub word_kept : (word moves : List ℕ) → word_answer word ≡ 0 → first_no (move_questions (steps moves) (codes word)) ≡ 0
    → Kept (codes word) (rewritten word moves)
word_kept word moves a e =
    moves_kept (steps moves) (codes word) (accepted_word word a).lettered
    (omega (arith, (accepted_word word a).count, (accepted_word word a).few)) e
