-- What the verdict says. If the key, the digest or the word is refused, asked in this order, the verdict is that
-- refusal. If all three are accepted, the verdict is 0 if and only if the two matrices are equal over the key's own
-- field, and 14 otherwise.
use Prim.Native.Nat.{ℕ}
use mathlib.Core.Path.{◌≡◌, sym, ap, ◌∙◌, subst}
use mathlib.Core.List.{List}
use mathlib.Core.Logic.{◌⊎◌, ◌↔◌}
use lib.ListN.{length}
use Rattle.base.specs.Questions.{first_no}
use Rattle.base.proofs.QuestionLaws.{all_passed, refused_there, both_passed}
use Rattle.base.proofs.ListLaws.{equal_of, equal_false}
use Rattle.field.specs.Fields.{digest_bytes}
use Rattle.word.specs.Words.{codes, word_answer}
use Rattle.key.specs.Keys.{key_field, key_questions, key_answer, key_of}
use Rattle.key.proofs.KeyFacts.{key_field_lem}
use Rattle.slip_verdict.specs.declared.Half.{Half}
use Rattle.slip_verdict.specs.Verdict.{signed, target, slip_questions, verdict}
use Rattle.slip_verdict.specs.Halves.{half_of, copy_questions}
use Rattle.slip_verdict.proofs.CopyLaws as copy
use Rattle.slip_verdict.proofs.CopyLaws.{same_copy}
use Rattle.slip_verdict.proofs.SlipLaws.{Goes, Equal, digest_8, past_digest, zero_iff_opens}

-- the field of a file is that of the key that it holds
goes : (key digest : List ℕ) → length digest ≡ digest_bytes (key_field key) → Goes (key_of key) digest
goes key digest d = d ∙ ap digest_bytes (sym (key_field_lem key))

-- the half of the key that a file holds and a digest
abbrev file_half : List ℕ → List ℕ → Half
file_half key digest = half_of (key_of key) digest

module _ (key digest word : List ℕ) where
  -- the key that the file holds decides
  pub past_key : key_answer key ≡ 0 → verdict key digest word ≡ first_no (slip_questions (key_of key) digest word)
  unfolding verdict key_answer
  past_key k = all_passed (key_questions key) (slip_questions (key_of key) digest word) tt k

  -- key and digest are passed: the slip is a copy under their half
  past_both : key_answer key ≡ 0 → length digest ≡ digest_bytes (key_field key)
      → verdict key digest word ≡ first_no (copy_questions (file_half key digest) word)
  past_both k d = past_key k ∙ past_digest (key_of key) digest word (goes key digest d)

  -- a refusal of the key, the digest or the word
  pub key_refused : (key_answer key ≡ 0 → ⊥) → verdict key digest word ≡ key_answer key
  unfolding verdict key_answer
  key_refused h = refused_there (key_questions key) (slip_questions (key_of key) digest word) tt h

  pub digest_refused : key_answer key ≡ 0 → (length digest ≡ digest_bytes (key_field key) → ⊥)
      → verdict key digest word ≡ 8
  digest_refused k h = past_key k ∙ digest_8 (key_of key) digest word (λ d. h (d ∙ ap digest_bytes (key_field_lem key)))

  pub word_refused : key_answer key ≡ 0 → length digest ≡ digest_bytes (key_field key) → (word_answer word ≡ 0 → ⊥)
      → verdict key digest word ≡ word_answer word
  word_refused k d h = past_both k d ∙ copy.word_number (file_half key digest) word h

  -- key, digest and word are accepted, and the matrices are equal
  pub record Signs : Type 0 where
    pub key_accepted : key_answer key ≡ 0
    pub digest_accepted : length digest ≡ digest_bytes (key_field key)
    pub word_accepted : word_answer word ≡ 0
    pub matrices_equal : Equal (key_of key) digest word

  signs : verdict key digest word ≡ 0 → Signs
  unfolding verdict key_answer
  signs z =
      let k = both_passed (key_questions key) (slip_questions (key_of key) digest word) tt z in
      let o = (zero_iff_opens (key_of key) digest word).0 k.1 in
      record {
        key_accepted = k.0;
        digest_accepted = o.digest_accepted ∙ ap digest_bytes (key_field_lem key);
        word_accepted = o.word_accepted;
        matrices_equal = o.matrices_equal;
      }

  module _ (k : key_answer key ≡ 0) (d : length digest ≡ digest_bytes (key_field key)) (w : word_answer word ≡ 0) where
    pub equal_zero : Equal (key_of key) digest word → verdict key digest word ≡ 0
    equal_zero e = past_both k d ∙ copy.agree_0 (file_half key digest) word w (equal_of e)

    pub unequal_14 : (Equal (key_of key) digest word → ⊥) → verdict key digest word ≡ 14
    unequal_14 h =
        past_both k d
        ∙ copy.differ_14 (file_half key digest) word w
        (equal_false (signed (key_of key) (codes word)) (target (key_of key) digest) h)

    pub zero_or_14 : (verdict key digest word ≡ 0) ⊎ (verdict key digest word ≡ 14)
    zero_or_14 =
        subst (λ (n : ℕ). (n ≡ 0) ⊎ (n ≡ 14)) (sym (past_both k d)) (copy.zero_or_14 (file_half key digest) word w)

    -- the verdict is 0 if and only if the matrix reached from Pub(S) by the word equals the one reached from the
    -- identity by the encoded digest, times the matrix of Pub(S')
    pub zero_iff_equal : (verdict key digest word ≡ 0) ↔ Equal (key_of key) digest word
    zero_iff_equal = (λ z. (signs z).matrices_equal, equal_zero)

  -- on all inputs: the slip is accepted if and only if all four hold
  pub zero_iff_signs : (verdict key digest word ≡ 0) ↔ Signs
  zero_iff_signs =
      (signs, λ s. equal_zero s.key_accepted s.digest_accepted s.word_accepted s.matrices_equal)

-- two accepted words that reach the same matrix from Pub(S) are answered alike
pub same_verdict : (key digest word new : List ℕ) → key_answer key ≡ 0 → length digest ≡ digest_bytes (key_field key)
    → word_answer word ≡ 0 → word_answer new ≡ 0
    → signed (key_of key) (codes new) ≡ signed (key_of key) (codes word)
    → verdict key digest new ≡ verdict key digest word
same_verdict key digest word new k d w n e =
    past_both key digest new k d ∙ same_copy (file_half key digest) word new w n e
    ∙ sym (past_both key digest word k d)
