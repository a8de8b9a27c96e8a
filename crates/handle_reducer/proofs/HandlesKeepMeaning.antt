-- Demand 3 for taking handles out, from bytes to bytes. If the answer is 0, whatever the limit, the file in the
-- output's first bytes, as many as are reported, has the meaning of the word handed in. The word that free reduction
-- before or after the steps gives has this meaning too.
use Prim.Native.Nat.{ℕ, ◌≤◌}
use mathlib.Core.Path.{◌≡◌, sym, ◌∙◌}
use mathlib.Core.Bool.{Bool, false}
use mathlib.Core.List.{List}
use native.Mathlib.Omega.{arith}
use lib.ListN.{length, take}
use Rattle.base.specs.Questions.{first_no, granted}
use Rattle.base.proofs.QuestionLaws.{granted_zero}
use Rattle.word.specs.Words.{codes, word_answer, word_file, Wrote}
use Rattle.word.specs.Reduction.{reduced}
use Rattle.word.proofs.ReadLaws.{accepted_word}
use Rattle.word.proofs.RoundTrip.{wrote_file}
use Rattle.word.proofs.ReductionLaws.{reduced_length}
use Rattle.braid_handles.specs.Handles.{has_handle, after_steps}
use Rattle.braid_handles.proofs.StepKeeps.{steps_same}
use Rattle.braid_handles.proofs.Runs.{steps_answer, answer_short}
use Rattle.braid_handles.proofs.FreeWords.{reduced_first, reduced_after}
use Rattle.slip_meaning.specs.Meaning.{SameMeaning}
use Rattle.slip_meaning.proofs.SameBraids.{written_means}
use Rattle.handle_reducer.specs.Reducing.{handle_questions, TookHandles}
use Rattle.handle_reducer.proofs.HandleAnswer.{accepted}

-- ---- files of words after steps

module _ (word : List ℕ) (limit : ℕ) (a : word_answer word ≡ 0) where
  codes_few : length (codes word) ≤ 10000
  codes_few = let w = accepted_word word a in omega (arith, w.count, w.few)

  steps_mean : steps_answer limit (codes word) ≡ 0 → SameMeaning word (word_file (after_steps limit (codes word)))
  steps_mean e =
      written_means word (after_steps limit (codes word)) a
      (steps_same limit (codes word) (accepted_word word a).lettered)
      (answer_short limit (codes word) e codes_few)

  -- free reduction first
  pub reduced_first_means : steps_answer limit (reduced (codes word)) ≡ 0
      → SameMeaning word (word_file (after_steps limit (reduced (codes word))))
  reduced_first_means e =
      written_means word (after_steps limit (reduced (codes word))) a
      (reduced_first limit (codes word) (accepted_word word a).lettered)
      (answer_short limit (reduced (codes word)) e (omega (arith, codes_few, reduced_length (codes word))))

  -- free reduction after
  pub reduced_after_means : steps_answer limit (codes word) ≡ 0
      → SameMeaning word (word_file (reduced (after_steps limit (codes word))))
  reduced_after_means e =
      written_means word (reduced (after_steps limit (codes word))) a
      (reduced_after limit (codes word) (accepted_word word a).lettered)
      (omega
      (arith, answer_short limit (codes word) e codes_few, reduced_length (after_steps limit (codes word))))

-- ---- the operation

module _ (word : List ℕ) (limit : ℕ) {before after : List ℕ} {answer bytes : ℕ}
    (w : Wrote (handle_questions (length before) word limit) (word_file (after_steps limit (codes word))) before after
    answer bytes) where
  pub handles_keep_meaning : answer ≡ 0 → SameMeaning word (take bytes after)
  handles_keep_meaning z =
      let e : first_no (handle_questions (length before) word limit) ≡ 0 = sym w.answer_is ∙ z in
      let a = accepted (length before) word limit e in
      rw (wrote_file w e) (steps_mean word limit a.word_accepted a.steps_accepted)

  -- an operation that gives the right numbers and leaves the right bytes meets the whole contract
  pub took_whole : {left : Bool}
      → left
      ≡ granted (first_no (handle_questions (length before) word limit))
      (has_handle (after_steps limit (codes word))) false
      → TookHandles word limit before after answer bytes left
  took_whole l = record { wrote = w; left_is = l; keeps = handles_keep_meaning }

-- ---- whether a handle is left

module _ {word before after : List ℕ} {limit answer bytes : ℕ} {left : Bool}
    (t : TookHandles word limit before after answer bytes left) where
  -- on answer 0 `left` says whether the new word has a handle
  pub left_handle : answer ≡ 0 → left ≡ has_handle (after_steps limit (codes word))
  left_handle z =
      t.left_is ∙ granted_zero (has_handle (after_steps limit (codes word))) false (sym t.wrote.answer_is ∙ z)
