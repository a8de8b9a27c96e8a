-- Laws of the operation's code: what it gives and leaves after the steps on a row of codes.
use Prim.Native.Nat.{ℕ, ◌≤◌}
use mathlib.Core.Path.{◌≡◌, sym, ap, ◌∙◌}
use mathlib.Core.Bool.{Bool, false}
use mathlib.Core.List.{List}
use native.Mathlib.Omega.{arith}
use lib.ListN.{length, take}
use lib.Seq.{length-take-le}
use Rattle.base.specs.Questions.{first_no, granted}
use Rattle.base.proofs.QuestionLaws.{granted_zero, granted_refused}
use Rattle.word.specs.Words.{codes, word_answer, word_file, writer_questions, Wrote}
use Rattle.word.proofs.LetterLaws.{Lettered}
use Rattle.word.proofs.ReadLaws.{accepted_word}
use Rattle.word.proofs.WriteLaws.{wrote_refused, wrote_same, writable}
use Rattle.braid_handles.specs.Handles.{has_handle, after_steps}
use Rattle.braid_handles.proofs.StepKeeps.{steps_lettered}
use Rattle.braid_handles.proofs.Runs.{steps_answer}
use Rattle.handle_steps.specs.steps.Runs.{StepsOnRow}
use Rattle.handle_reducer.specs.Reducing.{handle_questions, TookHandles}
use Rattle.handle_reducer.proofs.HandleAnswer.{past_word}
use Rattle.handle_reducer.proofs.HandlesKeepMeaning.{took_whole}

module _ (word : List ℕ) (limit : ℕ) (out : List ℕ) where
  -- a refusal leaves the output unchanged
  pub took_refused : {answer bytes : ℕ} {left : Bool} (n : ℕ) → (answer ≡ n) × (bytes ≡ 0) × (left ≡ false)
      → first_no (handle_questions (length out) word limit) ≡ n → (n ≡ 0 → ⊥)
      → TookHandles word limit out out answer bytes left
  took_refused n (a, b, l) e h =
      took_whole word limit (wrote_refused _ _ out n (a, b) e h)
      (l ∙ sym (granted_refused (has_handle (after_steps limit (codes word))) false (λ z. h (sym e ∙ z))))

  module _ (room : 5002 ≤ length out) (w : word_answer word ≡ 0) {row row' : List ℕ} {n a letters : ℕ} {left : Bool}
      (codes_are : take n row ≡ codes word) (r : StepsOnRow limit n row row' a letters left) where
    -- the answer is that of the steps
    pub row_answer : first_no (handle_questions (length out) word limit) ≡ a
    row_answer =
        past_word (length out) word limit room w
        ∙ sym (r.answer_is ∙ ap (steps_answer limit) codes_are)

    -- if no step is refused, the writer of words writes what the operation must write
    pub took : a ≡ 0 → letters ≤ length row' → {after : List ℕ} {answer bytes : ℕ}
        → Wrote (writer_questions (length out) (take letters row')) (word_file (take letters row')) out after answer
        bytes
        → TookHandles word limit out after answer bytes left
    took z fits o =
        let new : take letters row' ≡ after_steps limit (codes word) =
        r.word_is ∙ granted_zero _ _ z ∙ ap (after_steps limit) codes_are in
        let few : length (take letters row') ≤ 10000 = omega (arith, length-take-le letters row' fits, r.few) in
        let good : Lettered (take letters row') =
        rw new (steps_lettered limit (codes word) (accepted_word word w).lettered) in
        took_whole word limit
        (wrote_same (writable (length out) (take letters row') room few good ∙ sym (row_answer ∙ z)) (ap word_file new)
        o)
        (r.left_is
        ∙ (λ i. granted (sym row_answer i) (has_handle (after_steps limit (codes_are i))) false))
