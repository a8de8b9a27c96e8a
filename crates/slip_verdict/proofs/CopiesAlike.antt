-- Demand 3 for halves (document 02, §4): two accepted words that carry every pair alike, as a word and its rewritten
-- copy do, get the same answer from the second half, under every half of arrays of their sizes, over the half's own
-- field. If the half fails a question of its own, both words get the number of that question.
use Prim.Native.Nat.{ℕ, zero, suc}
use mathlib.Core.Path.{◌≡◌, refl, sym, ◌∙◌, subst}
use mathlib.Core.List.{List}
use mathlib.Core.Logic.{◌⊎◌}
use native.Mathlib.Omega.{arith}
use Rattle.base.specs.Questions.{first_no}
use Rattle.field.specs.Binary.{Operations, BinaryField}
use Rattle.field.specs.Fields.{operations}
use Rattle.field.proofs.Fields.{binary}
use Rattle.word.specs.Words.{codes, word_answer}
use Rattle.pair.specs.Good.{TValues, GoodPair}
use Rattle.pair.specs.declared.Pair.{Pair}
use Rattle.pair.specs.Action.{word_on}
use Rattle.slip_verdict.specs.declared.Half.{Half}
use Rattle.slip_verdict.specs.Halves.{signed_by, half_questions, second_half_questions}
use Rattle.slip_verdict.proofs.CopyLaws as copy
use Rattle.slip_verdict.proofs.CopyLaws.{same_copy}
use Rattle.slip_verdict.proofs.VerdictLaws.{signed_alike}
use Rattle.slip_verdict.proofs.HalfLaws.{Sized, accepted, half_values, half_pair, half_refused, past_half}

module _ (h : Half) (s : Sized h) (word new : List ℕ) (w : word_answer word ≡ 0) (n : word_answer new ≡ 0)
    (carried : (F : Operations) → BinaryField F → (ts : List ℕ) → TValues F ts
    → (p : Pair) → GoodPair F p → word_on F ts (codes new) p ≡ word_on F ts (codes word) p) where
  -- under a half that passes its questions they reach the same matrix
  same_reached : first_no (half_questions h) ≡ 0 → signed_by h (codes new) ≡ signed_by h (codes word)
  same_reached z =
      let a = accepted h z in
      signed_alike h.t_values (codes new) (codes word)
      (carried (operations h.field) (binary h.field) h.t_values (half_values h s a)) h.pair
      (half_pair h s a)

  pub copies_alike : first_no (second_half_questions h new) ≡ first_no (second_half_questions h word)
  copies_alike = go (first_no (half_questions h)) refl
    where
      go : (m : ℕ) → first_no (half_questions h) ≡ m
          → first_no (second_half_questions h new) ≡ first_no (second_half_questions h word)
      go zero z = past_half h new z ∙ same_copy h word new w n (same_reached z) ∙ sym (past_half h word z)
      go (suc m) e =
          let r : first_no (half_questions h) ≡ 0 → ⊥ = λ z. omega (arith, e, z) in
          half_refused h new r ∙ sym (half_refused h word r)

-- under a half that passes its questions the answer to an accepted word is 0 or 14
pub zero_or_14 : (h : Half) (word : List ℕ) → first_no (half_questions h) ≡ 0 → word_answer word ≡ 0
    → (first_no (second_half_questions h word) ≡ 0) ⊎ (first_no (second_half_questions h word) ≡ 14)
zero_or_14 h word z w = subst (λ (n : ℕ). (n ≡ 0) ⊎ (n ≡ 14)) (sym (past_half h word z)) (copy.zero_or_14 h word w)
