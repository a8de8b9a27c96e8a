-- The verdict on a slip under any key that was read: the refusal of the digest, or the answer to the word under the
-- half of key and digest. It is 0 if and only if digest and word are accepted and the two matrices are equal over the
-- key's own field.
use Prim.Native.Nat.{ℕ}
use mathlib.Core.Path.{◌≡◌, ◌∙◌}
use mathlib.Core.List.{List}
use mathlib.Core.Logic.{◌↔◌}
use borrow.Author.Tests.{eq-eqb, ne_eqb, eqb-true}
use lib.ListN.{length}
use Rattle.base.specs.Questions.{first_no}
use Rattle.base.proofs.QuestionLaws.{passes, fails, answers_passed, both_passed}
use Rattle.base.proofs.ListLaws.{equal_of}
use Rattle.field.specs.Fields.{digest_bytes}
use Rattle.word.specs.Words.{codes, word_answer}
use Rattle.key.specs.declared.Key.{Key}
use Rattle.slip_digest.specs.Digest.{digest_questions}
use Rattle.slip_verdict.specs.Verdict.{signed, target, slip_questions}
use Rattle.slip_verdict.specs.Halves.{half_of, copy_questions}
use Rattle.slip_verdict.proofs.CopyLaws as copy

-- the digest goes with the key's field
abbrev pub Goes : Key → List ℕ → Type 0
Goes key digest = length digest ≡ digest_bytes key.field

module _ (key : Key) (digest word : List ℕ) where
  -- the two matrices are equal
  abbrev pub Equal : Type 0
  Equal = signed key (codes word) ≡ target key digest

  -- a refusal of the digest
  pub digest_8 : (Goes key digest → ⊥) → first_no (slip_questions key digest word) ≡ 8
  digest_8 h = fails 8 (copy_questions (half_of key digest) word) (ne_eqb (length digest) (digest_bytes key.field) h)

  -- the digest is passed: the slip is a copy under the half of key and digest
  pub past_digest : Goes key digest
      → first_no (slip_questions key digest word) ≡ first_no (copy_questions (half_of key digest) word)
  past_digest d =
      passes 8 (copy_questions (half_of key digest) word) (eq-eqb (length digest) (digest_bytes key.field) d)

  -- digest and word are accepted, and the matrices are equal
  pub record Opens : Type 0 where
    pub digest_accepted : Goes key digest
    pub word_accepted : word_answer word ≡ 0
    pub matrices_equal : Equal

  opens : first_no (slip_questions key digest word) ≡ 0 → Opens
  opens z =
      let d = both_passed (digest_questions key.field digest) (copy_questions (half_of key digest) word) tt z in
      let m = (copy.zero_iff_matches (half_of key digest) word).0 d.1 in
      record {
        digest_accepted =
            eqb-true (length digest) (digest_bytes key.field)
            (answers_passed (digest_questions key.field digest) tt d.0).0;
        word_accepted = m.word_accepted;
        matrices_equal = m.reaches;
      }

  -- the slip opens if and only if all three hold
  pub zero_iff_opens : (first_no (slip_questions key digest word) ≡ 0) ↔ Opens
  zero_iff_opens = (
    opens,
    λ o. past_digest o.digest_accepted
        ∙ copy.agree_0 (half_of key digest) word o.word_accepted (equal_of o.matrices_equal),
  )
