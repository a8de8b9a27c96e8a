-- Laws of the two halves of the verdict: what the first half gives on each refusal and without one; what follows for a
-- half that passes its questions; what the second half answers if a half fails a question, and if it passes all.
use Prim.Native.Nat.{ℕ}
use mathlib.Core.Path.{◌≡◌, sym, ◌∙◌}
use mathlib.Core.Bool.{true, false, ◌&&◌}
use mathlib.Core.List.{List, []}
use lib.ListN.{length}
use Rattle.base.specs.Questions.{first_no}
use Rattle.base.proofs.QuestionLaws.{passes, fails, passed_answers, answers_passed, all_passed, refused_there}
use Rattle.base.proofs.QuestionLaws.{granted_zero, granted_refused}
use Rattle.base.proofs.ListLaws.{and_left, and_right, and_both}
use Rattle.field.specs.Fields.{operations}
use Rattle.word.specs.Strands.{are_inverse}
use Rattle.matrix.specs.Layout.{entry}
use Rattle.matrix.specs.Elimination.{invertible}
use Rattle.pair_operands.specs.Operands.{elements, nonzero}
use Rattle.pair.specs.Good.{TValues, GoodPair}
use Rattle.pair.proofs.GoodLaws.{tested_pair, tested_values}
use Rattle.key.specs.Keys.{key_questions, key_answer, key_of}
use Rattle.slip_digest.specs.Digest.{is_digest, digest_questions}
use Rattle.slip_verdict.specs.declared.Half.{Half}
use Rattle.slip_verdict.specs.Halves.{half_of, zero_half, first_half_questions, MakesHalf, half_questions}
use Rattle.slip_verdict.specs.Halves.{copy_questions, second_half_questions}

-- ---- the first half

module _ (key digest : List ℕ) where
  -- a refusal of the key
  pub key_refused : (key_answer key ≡ 0 → ⊥) → first_no (first_half_questions key digest) ≡ key_answer key
  unfolding key_answer
  key_refused r = refused_there (key_questions key) (digest_questions (key_of key).field digest) tt r

  module _ (k : key_answer key ≡ 0) where
    past_key : first_no (first_half_questions key digest) ≡ first_no (digest_questions (key_of key).field digest)
    unfolding key_answer
    past_key = all_passed (key_questions key) (digest_questions (key_of key).field digest) tt k

    -- a refusal of the digest, and no refusal
    pub digest_refused : is_digest (key_of key).field digest ≡ false → first_no (first_half_questions key digest) ≡ 8
    digest_refused e = past_key ∙ fails 8 [] e

    pub none_refused : is_digest (key_of key).field digest ≡ true → first_no (first_half_questions key digest) ≡ 0
    unfolding first_no
    none_refused e = past_key ∙ passes 8 [] e

  -- a refusal, as `Halved::refused` makes it, gives zeros
  pub refused : {answer : ℕ} {half : Half} (n : ℕ) → (answer ≡ n) × (half ≡ zero_half)
      → first_no (first_half_questions key digest) ≡ n → (n ≡ 0 → ⊥)
      → MakesHalf key digest answer half
  refused n r e h = record { answer_is = r.0 ∙ sym e; half_is = r.1 ∙ sym (granted_refused _ _ (λ z. h (sym e ∙ z))) }

  -- what the first half gives if every question is passed
  pub made : first_no (first_half_questions key digest) ≡ 0 → {half : Half} → half ≡ half_of (key_of key) digest
      → MakesHalf key digest 0 half
  made z e = record { answer_is = sym z; half_is = e ∙ sym (granted_zero _ _ z) }

-- ---- the second half

-- eight T-values, 64 entries, eight labels: as memory holds a half. What is shown of a half does not ask for the
-- target's size
pub record Sized (h : Half) : Type 0 where
  pub values : length h.t_values ≡ 8
  pub entries : length h.pair.matrix ≡ 64
  pub labels : length h.pair.labels ≡ 8

module _ (h : Half) where
  -- all questions are passed
  pub record Accepted : Type 0 where
    pub ts_elements : elements h.field h.t_values ≡ true
    pub pair_elements : elements h.field h.pair.matrix ≡ true
    pub target_elements : elements h.field h.target ≡ true
    pub no_zero : nonzero h.t_values ≡ true
    pub inverse_lists : are_inverse h.pair.labels h.pair.positions ≡ true
    pub pair_inverse : invertible (operations h.field) 8 (entry h.pair.matrix) ≡ true
    pub target_inverse : invertible (operations h.field) 8 (entry h.target) ≡ true

  pub accepted : first_no (half_questions h) ≡ 0 → Accepted
  accepted z =
      let f = h.field in
      let p = answers_passed (half_questions h) tt z in
      let two = elements f h.t_values && elements f h.pair.matrix in
      let e = and_left two (elements f h.target) p.0 in
      let i = p.1.1.1.0 in
      record {
        ts_elements = and_left (elements f h.t_values) (elements f h.pair.matrix) e;
        pair_elements = and_right (elements f h.t_values) (elements f h.pair.matrix) e;
        target_elements = and_right two (elements f h.target) p.0;
        no_zero = p.1.0;
        inverse_lists = p.1.1.0;
        pair_inverse =
            and_left (invertible (operations f) 8 (entry h.pair.matrix))
            (invertible (operations f) 8 (entry h.target)) i;
        target_inverse =
            and_right (invertible (operations f) 8 (entry h.pair.matrix))
            (invertible (operations f) 8 (entry h.target)) i;
      }

  pub accepted_answers : Accepted → first_no (half_questions h) ≡ 0
  accepted_answers a =
      passed_answers (half_questions h) (
        and_both (and_both a.ts_elements a.pair_elements) a.target_elements,
        (a.no_zero, (a.inverse_lists, (and_both a.pair_inverse a.target_inverse, tt))),
      )

  -- its T-values and its pair, as the laws of pairs ask them
  pub half_values : Sized h → Accepted → TValues (operations h.field) h.t_values
  half_values s a = tested_values h.field h.t_values s.values a.ts_elements a.no_zero

  pub half_pair : Sized h → Accepted → GoodPair (operations h.field) h.pair
  half_pair s a = tested_pair h.field h.pair s.entries s.labels a.pair_elements a.inverse_lists

  module _ (word : List ℕ) where
    -- a half that fails a question is answered with its number, whatever the word
    pub half_refused : (first_no (half_questions h) ≡ 0 → ⊥)
        → first_no (second_half_questions h word) ≡ first_no (half_questions h)
    half_refused r = refused_there (half_questions h) (copy_questions h word) tt r

    -- under a half that passes its questions the word decides
    pub past_half : first_no (half_questions h) ≡ 0
        → first_no (second_half_questions h word) ≡ first_no (copy_questions h word)
    past_half z = all_passed (half_questions h) (copy_questions h word) tt z
