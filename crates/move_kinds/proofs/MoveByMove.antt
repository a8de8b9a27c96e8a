-- The moves one after another, as the questions list them and as the code makes them. The first question answered no is
-- that of the first refused move. If no move is refused, the word is the same in both.
use Prim.Native.Nat.{ℕ, zero, suc, ◌-◌}
use mathlib.Core.Path.{◌≡◌, refl, ◌∙◌}
use mathlib.Core.Bool.{Bool, true, false, cond}
use mathlib.Core.List.{List, [], ◌∷◌}
use native.Mathlib.Omega.{arith}
use lib.Dec.{T, eqb}
use Rattle.base.specs.Questions.{first_no, granted}
use Rattle.base.proofs.QuestionLaws.{numbered, in_a_row}
use Rattle.word.specs.Cancellation.{Move, removal}
use Rattle.move_kinds.specs.Kinds.{exchange, braiding, insertion, unknown, inserts, move}
use Rattle.move_kinds.specs.Rewriting.{Step, move_of, move_questions, word_after}
use Rattle.move_kinds.specs.steps.Leaving.{Outcome, moved}

-- no question of a move has the number 0
pub move_numbered : (kind place : ℕ) (w : List ℕ) → T (numbered (move kind place w).questions)
unfolding move
move_numbered kind place w =
    chosen (eqb kind 1) (removal place w) _ tt
    (chosen (eqb kind 2) (exchange place w) _ tt
    (chosen (eqb kind 3) (braiding place w) _ tt
    (chosen (inserts kind) (insertion (kind - 16) place w) (unknown w) tt tt)))
  where
    chosen : (b : Bool) (m n : Move) → T (numbered m.questions) → T (numbered n.questions)
        → T (numbered (cond b m n).questions)
    chosen true m n s t = s
    chosen false m n s t = t

-- one move, and the outcome of the rest of the list on its word
module _ (o r : Outcome) where
  answer_then : (n k : ℕ) → k ≡ o.answer → n ≡ r.answer → granted n k n ≡ (granted n o r).answer
  unfolding granted
  answer_then zero k e f = e
  answer_then (suc n) k e f = f

  word_then : (n : ℕ) (v : List ℕ) → n ≡ r.answer → (o.answer ≡ 0 → o.word ≡ v) → (granted n o r).answer ≡ 0
      → (granted n o r).word ≡ v
  unfolding granted
  word_then zero v f g z = g z
  word_then (suc n) v f g z = absurd (omega arith)

-- the answer is the same in both
pub answers_alike : (ss : List Step) (w : List ℕ) → first_no (move_questions ss w) ≡ (moved ss w).answer
unfolding move_questions moved first_no
answers_alike [] w = refl
answers_alike (s ∷ ss) w =
    in_a_row (move_of s w).questions (move_questions ss (move_of s w).word) (move_numbered s.kind s.place w)
    ∙ answer_then (moved ss (move_of s w).word) _ (first_no (move_of s w).questions) _
    (answers_alike ss (move_of s w).word) refl

-- the word is the same in both
pub words_alike : (ss : List Step) (w : List ℕ) → (moved ss w).answer ≡ 0 → (moved ss w).word ≡ word_after ss w
unfolding moved word_after
words_alike [] w z = refl
words_alike (s ∷ ss) w z =
    word_then (moved ss (move_of s w).word) _ (first_no (move_of s w).questions) _ refl
    (words_alike ss (move_of s w).word) z
