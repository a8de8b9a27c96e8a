-- The answer to a copy of a slip under any half. A refused word gets its refusal. An accepted word gets 0 if and only
-- if the matrix that it reaches from Pub(S), over the half's own field, is the target, and 14 otherwise.
use Prim.Native.Nat.{ℕ}
use mathlib.Core.Path.{◌≡◌, refl, sym, ap, ◌∙◌}
use mathlib.Core.Bool.{Bool, true, false}
use mathlib.Core.List.{List, []}
use mathlib.Core.Logic.{◌⊎◌, inl, inr, ◌↔◌}
use Rattle.base.specs.Questions.{Question, first_no}
use Rattle.base.specs.Lists.{equal}
use Rattle.base.proofs.QuestionLaws.{passes, fails, answers_passed, all_passed, refused_there, both_passed}
use Rattle.base.proofs.ListLaws.{equal_true, equal_of}
use Rattle.word.specs.Words.{codes, word_questions, word_answer}
use Rattle.slip_verdict.specs.declared.Half.{Half}
use Rattle.slip_verdict.specs.Verdict.{matrix_questions}
use Rattle.slip_verdict.specs.Halves.{signed_by, copy_questions}

module _ (h : Half) (word : List ℕ) where
  -- the word reaches the target, and the comparison of the two matrices
  abbrev pub Reaches : Type 0
  Reaches = signed_by h (codes word) ≡ h.target

  abbrev pub agree : Bool
  agree = equal (signed_by h (codes word)) h.target

  abbrev last : List Question
  last = matrix_questions (signed_by h (codes word)) h.target

  -- a refusal of the word
  pub word_number : (word_answer word ≡ 0 → ⊥) → first_no (copy_questions h word) ≡ word_answer word
  unfolding word_answer
  word_number r = refused_there (word_questions word) last tt r

  module _ (w : word_answer word ≡ 0) where
    -- the matrices decide
    pub past_word : first_no (copy_questions h word) ≡ first_no last
    unfolding word_answer
    past_word = all_passed (word_questions word) last tt w

    pub agree_0 : agree ≡ true → first_no (copy_questions h word) ≡ 0
    unfolding first_no
    agree_0 e = past_word ∙ passes 14 [] e

    pub differ_14 : agree ≡ false → first_no (copy_questions h word) ≡ 14
    differ_14 e = past_word ∙ fails 14 [] e

    pub zero_or_14 : (first_no (copy_questions h word) ≡ 0) ⊎ (first_no (copy_questions h word) ≡ 14)
    zero_or_14 = go agree refl
      where
        go : (b : Bool) → agree ≡ b → (first_no (copy_questions h word) ≡ 0) ⊎ (first_no (copy_questions h word) ≡ 14)
        go true e = inl (agree_0 e)
        go false e = inr (differ_14 e)

  -- the word is accepted, and reaches the target
  pub record Matches : Type 0 where
    pub word_accepted : word_answer word ≡ 0
    pub reaches : Reaches

  matches : first_no (copy_questions h word) ≡ 0 → Matches
  unfolding word_answer
  matches z =
      let w = both_passed (word_questions word) last tt z in
      record {
        word_accepted = w.0;
        reaches = equal_true (signed_by h (codes word)) h.target (answers_passed last tt w.1).0;
      }

  -- the copy gets 0 if and only if both hold
  pub zero_iff_matches : (first_no (copy_questions h word) ≡ 0) ↔ Matches
  zero_iff_matches = (matches, λ m. agree_0 m.word_accepted (equal_of m.reaches))

-- two accepted words that reach the same matrix from Pub(S) are answered alike
pub same_copy : (h : Half) (word new : List ℕ) → word_answer word ≡ 0 → word_answer new ≡ 0
    → signed_by h (codes new) ≡ signed_by h (codes word)
    → first_no (copy_questions h new) ≡ first_no (copy_questions h word)
same_copy h word new w n e =
    past_word h new n
    ∙ ap (λ (m : List ℕ). first_no (matrix_questions m h.target)) e
    ∙ sym (past_word h word w)
