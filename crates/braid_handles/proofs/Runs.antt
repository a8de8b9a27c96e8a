-- Runs of steps: a word without handles stays as it is, the answer is 0 or 32, and if it is 0 the new word has at most
-- 10,000 letters.
use Prim.Native.Nat.{ℕ, zero, suc, ◌≤◌, ◌<◌}
use mathlib.Core.Path.{◌≡◌, refl, sym, ap, ◌∙◌}
use mathlib.Core.Bool.{Bool, true, false, cond}
use mathlib.Core.List.{List, [], ◌∷◌, ◌++◌, append_assoc}
use mathlib.Core.Logic.{◌⊎◌, inl, inr}
use native.Mathlib.Omega.{arith}
use borrow.Author.Tests.{leb-true, leb-false, le-leb, lt-leb}
use lib.Dec.{leb}
use lib.ListN.{length}
use Rattle.base.specs.Questions.{first_no}
use Rattle.base.proofs.QuestionLaws.{passes, fails}
use Rattle.word.specs.Words.{max_letters}
use Rattle.braid_handles.specs.Handles.{start_of, earliest_end, conjugated_letter, conjugated, handle_reduced}
use Rattle.braid_handles.specs.Handles.{stepped, after_steps, step_questions}
use Rattle.braid_handles.proofs.HandleLaws.{Free}

-- ---- a word without handles

step_free : (w : List ℕ) → Free w → stepped w ≡ w
unfolding stepped
step_free w e = ap (λ (b : Bool). cond b (handle_reduced (start_of w (earliest_end w)) (earliest_end w) w) w) e

pub steps_free : (n : ℕ) (w : List ℕ) → Free w → after_steps n w ≡ w
unfolding after_steps
steps_free zero w e = refl
steps_free (suc n) w e = ap (after_steps n) (step_free w e) ∙ steps_free n w e

-- ---- the answer, step by step

abbrev pub steps_answer : ℕ → List ℕ → ℕ
steps_answer n w = first_no (step_questions n w)

-- with the limit 0 the word stays, and no question is asked
pub no_steps : (w : List ℕ) → (after_steps 0 w ≡ w) × (steps_answer 0 w ≡ 0)
unfolding after_steps step_questions first_no
no_steps w = (refl, refl)

module _ (n : ℕ) (w : List ℕ) where
  pub step_fits : length (stepped w) ≤ max_letters → steps_answer (suc n) w ≡ steps_answer n (stepped w)
  unfolding step_questions
  step_fits h = passes 32 (step_questions n (stepped w)) (le-leb (length (stepped w)) max_letters h)

  pub step_refused : max_letters < length (stepped w) → steps_answer (suc n) w ≡ 32
  unfolding step_questions
  step_refused h = fails 32 (step_questions n (stepped w)) (lt-leb (length (stepped w)) max_letters h)

-- the answer is 0 or 32
pub zero_or_32 : (n : ℕ) (w : List ℕ) → (steps_answer n w ≡ 0) ⊎ (steps_answer n w ≡ 32)
zero_or_32 zero w = inl (no_steps w).1
zero_or_32 (suc n) w = go (leb (length (stepped w)) max_letters) refl (zero_or_32 n (stepped w))
  where
    go : (b : Bool) → leb (length (stepped w)) max_letters ≡ b
        → (steps_answer n (stepped w) ≡ 0) ⊎ (steps_answer n (stepped w) ≡ 32)
        → (steps_answer (suc n) w ≡ 0) ⊎ (steps_answer (suc n) w ≡ 32)
    go true h (inl e) = inl (step_fits n w (leb-true (length (stepped w)) max_letters h) ∙ e)
    go true h (inr e) = inr (step_fits n w (leb-true (length (stepped w)) max_letters h) ∙ e)
    go false h r = inr (step_refused n w (leb-false (length (stepped w)) max_letters h))

-- on answer 0 the first step leaves a word that is not too long, and the rest answers 0
first_fits : (n : ℕ) (w : List ℕ) → steps_answer (suc n) w ≡ 0
    → (length (stepped w) ≤ max_letters) × (steps_answer n (stepped w) ≡ 0)
first_fits n w e = go (leb (length (stepped w)) max_letters) refl
  where
    go : (b : Bool) → leb (length (stepped w)) max_letters ≡ b
        → (length (stepped w) ≤ max_letters) × (steps_answer n (stepped w) ≡ 0)
    go true h =
        let l = leb-true (length (stepped w)) max_letters h in (l, sym (step_fits n w l) ∙ e)
    go false h =
        absurd (omega (arith, e, step_refused n w (leb-false (length (stepped w)) max_letters h)))

pub answer_short : (n : ℕ) (w : List ℕ) → steps_answer n w ≡ 0 → length w ≤ max_letters
    → length (after_steps n w) ≤ max_letters
unfolding after_steps
answer_short zero w e l = l
answer_short (suc n) w e l = let f = first_fits n w e in answer_short n (stepped w) f.1 f.0

-- a word without handles is not refused
pub free_answers : (n : ℕ) (w : List ℕ) → Free w → length w ≤ max_letters → steps_answer n w ≡ 0
free_answers zero w e l = (no_steps w).1
free_answers (suc n) w e l =
    let s = step_free w e in
    step_fits n w (omega (arith, ap length s)) ∙ ap (steps_answer n) s ∙ free_answers n w e l

-- ---- the letters between, replaced in parts

pub conjugated_append : (c : ℕ) (x y : List ℕ) → conjugated c (x ++ y) ≡ conjugated c x ++ conjugated c y
unfolding conjugated
conjugated_append c [] y = refl
conjugated_append c (d ∷ x) y =
    ap (λ (t : List ℕ). conjugated_letter c d ++ t) (conjugated_append c x y)
    ∙ sym (append_assoc (conjugated_letter c d) (conjugated c x) (conjugated c y))
