-- Laws of cloaking: the answer if a question is failed and if all are passed, and the comparison of the pair that comes
-- back.
use Prim.Native.Nat.{ℕ}
use mathlib.Core.Path.{◌≡◌, sym, ◌∙◌}
use mathlib.Core.Bool.{Bool, true, false, ◌&&◌}
use mathlib.Core.List.{List, ◌∷◌}
use Rattle.base.specs.Questions.{◌else◌, first_no}
use Rattle.base.specs.Lists.{equal}
use Rattle.base.proofs.QuestionLaws.{passes, fails, all_passed, refused_there, granted_zero, granted_refused}
use Rattle.field.specs.Binary.{Operations}
use Rattle.field.specs.Fields.{operations}
use Rattle.word.specs.Words.{codes, word_questions, word_answer}
use Rattle.pair.specs.declared.Pair.{Pair}
use Rattle.pair.specs.Action.{pair_of, word_on, start}
use Rattle.key.specs.Keys.{key_field, key_questions, key_answer, key_of}
use Rattle.slip_cloaking.specs.Cloaking.{same_pair, does_come_back, is_list, cloak_questions, Cloaks}

module _ (key labels word : List ℕ) where
  -- a refusal of the key or of the list
  pub key_refused : (key_answer key ≡ 0 → ⊥) → first_no (cloak_questions key labels word) ≡ key_answer key
  unfolding key_answer
  key_refused h = refused_there (key_questions key) ((is_list labels else 25) ∷ word_questions word) tt h

  module _ (k : key_answer key ≡ 0) where
    past_key : first_no (cloak_questions key labels word) ≡ first_no ((is_list labels else 25) ∷ word_questions word)
    unfolding key_answer
    past_key = all_passed (key_questions key) ((is_list labels else 25) ∷ word_questions word) tt k

    pub list_refused : is_list labels ≡ false → first_no (cloak_questions key labels word) ≡ 25
    list_refused l = past_key ∙ fails 25 (word_questions word) l

    -- key and list are passed: the word decides
    pub past_list : is_list labels ≡ true → first_no (cloak_questions key labels word) ≡ word_answer word
    unfolding word_answer
    past_list l = past_key ∙ passes 25 (word_questions word) l

  -- a refusal, as `Cloak::refused` makes it, says no
  pub refused : {answer : ℕ} {yes : Bool} (n : ℕ) → (answer ≡ n) × (yes ≡ false)
      → first_no (cloak_questions key labels word) ≡ n → (n ≡ 0 → ⊥)
      → Cloaks key labels word answer yes
  refused n r e h = record { answer_is = r.0 ∙ sym e; yes_is = r.1 ∙ sym (granted_refused _ _ (λ z. h (sym e ∙ z))) }

  -- the answer and the yes or no if every question is passed
  pub answered : first_no (cloak_questions key labels word) ≡ 0 → {yes : Bool}
      → yes ≡ does_come_back (operations (key_field key)) (key_of key).t_values labels (codes word)
      → Cloaks key labels word 0 yes
  answered z e = record { answer_is = sym z; yes_is = e ∙ sym (granted_zero _ _ z) }

-- the pair that comes back, compared as the code does it
module _ (F : Operations) (ts labels w copied : List ℕ) (s after : Pair) (is-start : s ≡ start)
    (is-copied : copied ≡ labels)
    (is-after : after ≡ word_on F ts w (pair_of s.matrix copied)) where
  pub back : {same : Bool} → same ≡ equal after.matrix s.matrix
      → does_come_back F ts labels w ≡ (same && equal after.labels labels)
  unfolding does_come_back same_pair start
  back e = rw (e, is-after, is-copied, is-start)
