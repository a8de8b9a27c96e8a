-- Laws of the move list as the code reads it: the length of an accepted list, and one more move.
use Prim.Native.Nat.{ℕ, suc, ◌+◌, ◌-◌, ◌*◌, ◌≤◌, ◌<◌}
use mathlib.Core.Path.{◌≡◌, refl, sym, ap, ◌∙◌, subst}
use mathlib.Core.List.{List, ◌∷◌, map}
use native.Mathlib.Numerals.{add-one}
use native.Mathlib.Omega.{arith}
use borrow.Author.Tests.{eqb-true}
use lib.ListN.{length, take}
use Rattle.base.specs.Questions.{first_no}
use Rattle.base.specs.Lists.{values_from}
use Rattle.base.proofs.QuestionLaws.{answers_passed, granted_zero, granted_refused}
use Rattle.move_kinds.specs.Rewriting.{Step, move_of, move_count, step_at, list_questions}
use Rattle.move_kinds.specs.steps.Lists.{Listed}
use Rattle.move_kinds.specs.steps.Leaving.{Outcome, moved, outcome, Leaves, Makes}

-- an accepted list's length
pub listed : (moves : List ℕ) → first_no (list_questions moves) ≡ 0 → Listed moves
listed moves e = eqb-true (length moves) (2 + 3 * move_count moves) (answers_passed (list_questions moves) tt e).1.1.0

-- ---- one more move

-- an outcome may be replaced by an equal one, and an answer that equals 0 by 0
pub leaves_as : {o o' : Outcome} {row : List ℕ} {a letters : ℕ} → o ≡ o' → Leaves o row a letters
    → Leaves o' row a letters
leaves_as {row = row} {a} {letters} e r = subst (λ (x : Outcome). Leaves x row a letters) e r

leaves_zero : {o : Outcome} {row : List ℕ} {a letters : ℕ} → a ≡ 0 → Leaves o row a letters → Leaves o row 0 letters
leaves_zero {o} {row} {letters = letters} e r = subst (λ (x : ℕ). Leaves o row x letters) e r

-- n moves of the list from move k on
abbrev pub steps_from : List ℕ → ℕ → ℕ → List Step
steps_from moves k n = map (step_at moves) (values_from (λ i. i) k n)

steps_next : (moves : List ℕ) (count k : ℕ) → k < count
    → steps_from moves k (count - k) ≡ step_at moves k ∷ steps_from moves (k + 1) (count - (k + 1))
unfolding values_from
steps_next moves count k h =
    let e : count - k ≡ suc (count - (k + 1)) = omega arith in
    ap (steps_from moves k) e ∙ ap (λ (i : ℕ). step_at moves k ∷ steps_from moves i (count - (k + 1))) (sym (add-one k))

steps_none : (moves : List ℕ) (k n : ℕ) (w : List ℕ) → n ≡ 0
    → moved (steps_from moves k n) w ≡ record { answer = 0; word = w }
unfolding values_from moved
steps_none moves k n w e = rw e

module _ (s : Step) (ss : List Step) (w row : List ℕ) (letters : ℕ) where
  -- after an accepted move, the rest of the list works on the word that it left
  moved_goes : Leaves (outcome (move_of s w) w) row 0 letters → moved (s ∷ ss) w ≡ moved ss (take letters row)
  unfolding moved
  moved_goes r =
      let m = move_of s w in
      let z : first_no m.questions ≡ 0 = sym r.answer_is in
      granted_zero _ _ z ∙ ap (moved ss) (sym (r.word_is ∙ granted_zero m.word w z))

  -- after a refused move, the outcome is final
  moved_stops : {a : ℕ} → (a ≡ 0 → ⊥) → Leaves (outcome (move_of s w) w) row a letters
      → Leaves (moved (s ∷ ss) w) row a letters
  unfolding moved
  moved_stops h r =
      let m = move_of s w in
      let n : (first_no m.questions ≡ 0 → ⊥) = λ z. h (r.answer_is ∙ z) in
      let e : moved (s ∷ ss) w ≡ record { answer = first_no m.questions; word = w } = granted_refused _ _ n in
      record {
        answer_is = r.answer_is ∙ ap (λ (o : Outcome). o.answer) (sym e);
        letters_in = r.letters_in;
        word_is = r.word_is ∙ granted_refused m.word w n ∙ ap (λ (o : Outcome). o.word) (sym e);
      }

-- One turn of a loop over the list. The invariant: the rest of the list gives, on the word at this point, the outcome
-- of the whole list.
module _ (moves codes : List ℕ) (count k letters : ℕ) {o : Outcome}
    (e : moved (steps_from moves k (count - k)) (take letters codes) ≡ o) where
  module _ (h : k < count) where
    opened : moved (step_at moves k ∷ steps_from moves (k + 1) (count - (k + 1))) (take letters codes) ≡ o
    opened = ap (λ (ss : List Step). moved ss (take letters codes)) (sym (steps_next moves count k h)) ∙ e

    pub goes_on : {row : List ℕ} {a l : ℕ} → a ≡ 0 → Makes (move_of (step_at moves k)) letters codes row a l
        → moved (steps_from moves (k + 1) (count - (k + 1))) (take l row) ≡ o
    goes_on {row} {l = l} z r =
        sym (moved_goes (step_at moves k) (steps_from moves (k + 1) (count - (k + 1))) (take letters codes) row l
        (leaves_zero z r)) ∙ opened

    pub stops : {row : List ℕ} {a l : ℕ} → (a ≡ 0 → ⊥) → Makes (move_of (step_at moves k)) letters codes row a l
        → Leaves o row a l
    stops {row} {l = l} n r =
        leaves_as opened
        (moved_stops (step_at moves k) (steps_from moves (k + 1) (count - (k + 1))) (take letters codes) row l n r)

  pub ends : count ≤ k → letters ≤ length codes → Leaves o codes 0 letters
  ends h l =
      let z : count - k ≡ 0 = omega arith in
      leaves_as (sym (steps_none moves k (count - k) (take letters codes) z) ∙ e)
      (record { answer_is = refl; letters_in = l; word_is = refl })
