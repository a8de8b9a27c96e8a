-- The whole verdict is its halves (document 02, §4), from bytes, for every key, digest and word. If the first half
-- answers 0, the second half answers what the verdict answers, on the half that the first gave. If the first refuses,
-- the verdict is its number. A half that the first gave passes all questions of the second, because the target of an
-- accepted key has an inverse, whatever the digest.
use Prim.Native.Nat.{ℕ}
use mathlib.Core.Path.{◌≡◌, refl, sym, ap, ◌∙◌}
use mathlib.Core.Bool.{true}
use mathlib.Core.List.{List, ◌++◌}
use Rattle.base.specs.Questions.{first_no}
use Rattle.base.proofs.QuestionLaws.{all_passed, refused_there, both_passed, granted_zero}
use Rattle.base.proofs.ListLaws.{and_left, and_right}
use Rattle.base.proofs.DigitLaws.{below_all}
use Rattle.field.specs.Fields.{bits, operations}
use Rattle.field.specs.declared.Field.{Field}
use Rattle.field.proofs.Fields.{binary}
use Rattle.matrix.specs.Layout.{entry, Matrix}
use Rattle.matrix.specs.Product.{matrix_product}
use Rattle.matrix.specs.Elimination.{invertible}
use Rattle.matrix.proofs.ProductLaws.{product_elements}
use Rattle.matrix.proofs.Invertible.{identity_invertible, product_invertible}
use Rattle.pair_operands.specs.Operands.{elements}
use Rattle.pair.specs.Action.{word_on, start}
use Rattle.pair.specs.Good.{TValues}
use Rattle.pair.proofs.BraidRelations.{good_matrix}
use Rattle.word.proofs.PositionLaws.{order_inverse}
use Rattle.pair.proofs.WordLaws.{codes_good}
use Rattle.pair.proofs.InvertibleWords.{word_invertible}
use Rattle.key.specs.Keys.{key_field, key_labels, first_bytes, second_bytes, entries, whole_matrix, key_questions}
use Rattle.key.specs.Keys.{key_answer, key_of}
use Rattle.key.proofs.KeyFacts as facts
use Rattle.slip_digest.specs.Digest.{digest_questions, encoded}
use Rattle.slip_digest.proofs.Encoded.{encoded_letters}
use Rattle.slip_digest_braid.proofs.ShortBraid.{start_good}
use Rattle.slip_verdict.specs.declared.Half.{Half}
use Rattle.slip_verdict.specs.Verdict.{target_over, verdict}
use Rattle.slip_verdict.specs.Halves.{half_of, MakesHalf, first_half_questions, half_questions, copy_questions}
use Rattle.slip_verdict.specs.Halves.{second_half_questions}
use Rattle.slip_verdict.proofs.HalfLaws.{Accepted, accepted_answers, past_half}

-- ---- the target has an inverse

-- what a digest's braid reaches from the identity has an inverse, under T-values other than zero, and so has its
-- product with a matrix that has one
pub target_invertible : (f : Field) (ts digest second : List ℕ) → TValues (operations f) ts
    → Matrix (operations f).size second
    → invertible (operations f) 8 (entry second) ≡ true
    → invertible (operations f) 8
    (entry (matrix_product (operations f) (word_on (operations f) ts (encoded digest) start).matrix second)) ≡ true
unfolding start
target_invertible f ts digest second tv m e =
    let reached = word_on (operations f) ts (encoded digest) start in
    product_invertible (binary f) reached.matrix second
    (good_matrix (codes_good (binary f) ts (encoded digest) start (start_good (binary f)))) m
    (word_invertible (binary f) ts tv (encoded digest) (encoded_letters digest) start (start_good (binary f))
    ∙ identity_invertible (binary f)) e

-- the entries of a matrix, as they are tested
tested : (f : Field) (m : List ℕ) → Matrix (operations f).size m → elements f m ≡ true
tested f m good = below_all (operations f).size m (λ k h. good.below k)

-- a half that is made of an accepted key passes all its questions
module _ (key digest : List ℕ) (k : key_answer key ≡ 0) where
  made_accepted : Accepted (half_of (key_of key) digest)
  unfolding key_of target_over
  made_accepted =
      let f = key_field key in
      let a = facts.accepted key k in
      let first = whole_matrix (entries (bits f) (first_bytes (bits f) key)) in
      let second = whole_matrix (entries (bits f) (second_bytes (bits f) key)) in
      record {
        ts_elements = facts.t_values_elements f key;
        pair_elements = tested f first (facts.matrix_good f (first_bytes (bits f) key));
        target_elements = tested f _ (product_elements (binary f) _ second);
        no_zero = a.no_zero;
        inverse_lists = order_inverse (key_labels (bits f) key) a.order_is;
        pair_inverse =
            and_left (invertible (operations f) 8 (entry first))
            (invertible (operations f) 8 (entry second)) a.inverses;
        target_inverse =
            target_invertible f _ digest second (facts.key_values key k)
            (facts.matrix_good f (second_bytes (bits f) key))
            (and_right (invertible (operations f) 8 (entry first)) (invertible (operations f) 8 (entry second))
            a.inverses);
      }

  pub made_answers : first_no (half_questions (half_of (key_of key) digest)) ≡ 0
  made_answers = accepted_answers (half_of (key_of key) digest) made_accepted

-- ---- the whole is its halves

-- the verdict's questions are those of the first half, then those of the word under the half that it gives
in_halves : (key digest word : List ℕ)
    → verdict key digest word
    ≡ first_no (first_half_questions key digest ++ copy_questions (half_of (key_of key) digest) word)
unfolding verdict
in_halves key digest word = refl

module _ {key digest : List ℕ} {answer : ℕ} {half : Half} (m : MakesHalf key digest answer half) (word : List ℕ) where
  pub whole_is_its_halves : answer ≡ 0 → first_no (second_half_questions half word) ≡ verdict key digest word
  unfolding key_answer
  whole_is_its_halves z =
      let made = half_of (key_of key) digest in
      let zero : first_no (first_half_questions key digest) ≡ 0 = sym m.answer_is ∙ z in
      let k = (both_passed (key_questions key) (digest_questions (key_of key).field digest) tt zero).0 in
      ap (λ (h : Half). first_no (second_half_questions h word)) (m.half_is ∙ granted_zero _ _ zero)
      ∙ past_half made word (made_answers key digest k)
      ∙ sym (in_halves key digest word
      ∙ all_passed (first_half_questions key digest) (copy_questions made word) tt zero)

  pub refused_by_the_first : (answer ≡ 0 → ⊥) → verdict key digest word ≡ answer
  refused_by_the_first r =
      in_halves key digest word
      ∙ refused_there (first_half_questions key digest) (copy_questions (half_of (key_of key) digest) word) tt
      (λ z. r (m.answer_is ∙ z))
      ∙ sym m.answer_is
