-- The questions of a slip on the chip. Its answer is the verdict, or 36 in the verdict's place. A slip that an earlier
-- question refuses never gets 36.
use Prim.Native.Nat.{ℕ}
use mathlib.Core.Path.{◌≡◌, refl, sym, ap, ap₂, ◌∙◌, subst}
use mathlib.Core.Bool.{Bool, true, false, cond, not, ◌&&◌, ◌||◌}
use mathlib.Core.List.{List, [], ◌∷◌, ◌++◌}
use mathlib.Core.Logic.{◌⊎◌, inl, inr}
use borrow.Author.Tests.{eq-eqb, ne_eqb}
use lib.Dec.{T, eqb}
use lib.ListN.{length}
use Rattle.base.specs.Questions.{Question, ◌else◌, first_no}
use Rattle.base.specs.Lists.{equal}
use Rattle.base.proofs.QuestionLaws.{passes, fails, all_passed, refused_there}
use Rattle.field.specs.Fields.{digest_bytes}
use Rattle.word.specs.Words.{codes, word_questions, word_answer}
use Rattle.key.specs.Keys.{key_questions, key_answer, key_of}
use Rattle.key.specs.declared.Key.{Key}
use Rattle.slip_digest.specs.Digest.{digest_questions}
use Rattle.slip_verdict.specs.Verdict.{signed, target, matrix_questions, slip_questions, verdict}
use Rattle.slip_verdict.proofs.SlipLaws.{Goes}
use Rattle.shelf.specs.Calls.{chip_questions, is_verdict}

-- the answer of a slip on the chip, from its verdict: 36 in place of 0 or 14 if the slip is not admitted
abbrev pub on_chip : Bool → ℕ → ℕ
on_chip admits answer = cond (is_verdict answer && not admits) 36 answer

-- no question's number is that of a verdict
abbrev early : List Question → Bool
early [] = true
early (q ∷ qs) = not (is_verdict q.number) && early qs

head_early : (a b : Bool) → T (not a && b) → a ≡ false
head_early true b t = absurd t
head_early false b t = refl

rest_early : (a b : Bool) → T (not a && b) → T b
rest_early true b t = absurd t
rest_early false b t = t

-- an early question that is not passed gives no verdict
no_verdict : (ps : List Question) → T (early ps) → (first_no ps ≡ 0 → ⊥) → is_verdict (first_no ps) ≡ false
unfolding first_no
no_verdict [] t h = absurd (h refl)
no_verdict (p ∷ ps) t h =
    go p.passed refl (no_verdict ps (rest_early (is_verdict p.number) (early ps) t))
  where
    go : (b : Bool) → p.passed ≡ b → ((first_no ps ≡ 0 → ⊥) → is_verdict (first_no ps) ≡ false)
        → is_verdict (first_no (p ∷ ps)) ≡ false
    go true e rest =
        let s = passes p.number ps e in ap is_verdict s ∙ rest (λ z. h (s ∙ z))
    go false e rest = ap is_verdict (fails p.number ps e) ∙ head_early (is_verdict p.number) (early ps) t

-- 36 asked between early questions and the verdict
between : (ok : Bool) (ps qs : List Question) → T (early ps) → is_verdict (first_no qs) ≡ true
    → first_no (ps ++ ((ok else 36) ∷ qs)) ≡ on_chip ok (first_no (ps ++ qs))
unfolding first_no
between ok [] qs t v =
    go ok ∙ ap (λ (b : Bool). cond (b && not ok) 36 (first_no qs)) (sym v)
  where
    go : (b : Bool) → cond b (first_no qs) 36 ≡ cond (not b) 36 (first_no qs)
    go true = refl
    go false = refl
between ok (p ∷ ps) qs t v =
    go p.passed (between ok ps qs (rest_early (is_verdict p.number) (early ps) t) v)
  where
    go : (b : Bool) → first_no (ps ++ ((ok else 36) ∷ qs)) ≡ on_chip ok (first_no (ps ++ qs))
        → cond b (first_no (ps ++ ((ok else 36) ∷ qs))) p.number
        ≡ on_chip ok (cond b (first_no (ps ++ qs)) p.number)
    go true e = e
    go false e =
        ap (λ (b : Bool). cond (b && not ok) 36 p.number)
        (sym (head_early (is_verdict p.number) (early ps) t))

-- the comparison of the matrices gives a verdict
pub matrix_verdict : (b : Bool) → is_verdict (first_no ((b else 14) ∷ [])) ≡ true
unfolding first_no
matrix_verdict true = refl
matrix_verdict false = refl

module _ (ok : Bool) (key : Key) (digest word : List ℕ) where
  abbrev last : List Question
  last = matrix_questions (signed key (codes word)) (target key digest)

  last_verdict : is_verdict (first_no last) ≡ true
  last_verdict = matrix_verdict (equal (signed key (codes word)) (target key digest))

  -- ---- in order: 8, the word's questions, 36, and the verdict

  abbrev from_36 : List Question
  from_36 = (ok else 36) ∷ last

  pub chip_8 : (Goes key digest → ⊥) → first_no (chip_questions ok key digest word) ≡ 8
  chip_8 h = fails 8 (word_questions word ++ from_36) (ne_eqb (length digest) (digest_bytes key.field) h)

  module _ (d : Goes key digest) where
    past_8 : first_no (chip_questions ok key digest word) ≡ first_no (word_questions word ++ from_36)
    past_8 = passes 8 (word_questions word ++ from_36) (eq-eqb (length digest) (digest_bytes key.field) d)

    pub chip_word : (word_answer word ≡ 0 → ⊥) → first_no (chip_questions ok key digest word) ≡ word_answer word
    unfolding word_answer
    chip_word h = past_8 ∙ refused_there (word_questions word) from_36 tt h

    module _ (w : word_answer word ≡ 0) where
      past_13 : first_no (chip_questions ok key digest word) ≡ first_no from_36
      unfolding word_answer
      past_13 = past_8 ∙ all_passed (word_questions word) from_36 tt w

      pub chip_36 : ok ≡ false → first_no (chip_questions ok key digest word) ≡ 36
      chip_36 e = past_13 ∙ fails 36 last e

      -- an admitted slip gets the verdict, 0 or 14
      pub chip_verdict : ok ≡ true
          → first_no (chip_questions ok key digest word) ≡ first_no (slip_questions key digest word)
      unfolding word_answer
      chip_verdict e =
          past_13 ∙ passes 36 last e
          ∙ sym (passes 8 (word_questions word ++ last) (eq-eqb (length digest) (digest_bytes key.field) d)
          ∙ all_passed (word_questions word) last tt w)

      pub slip_verdict : is_verdict (first_no (slip_questions key digest word)) ≡ true
      unfolding word_answer
      slip_verdict =
          ap is_verdict
          (passes 8 (word_questions word ++ last) (eq-eqb (length digest) (digest_bytes key.field) d)
          ∙ all_passed (word_questions word) last tt w)
          ∙ last_verdict

-- a refused word gives no verdict, and a refused key none
pub word_no_verdict : (word : List ℕ) → (word_answer word ≡ 0 → ⊥) → is_verdict (word_answer word) ≡ false
unfolding word_answer
word_no_verdict word h = no_verdict (word_questions word) tt h

pub key_no_verdict : (key : List ℕ) → (key_answer key ≡ 0 → ⊥) → is_verdict (key_answer key) ≡ false
unfolding key_answer
key_no_verdict key h = no_verdict (key_questions key) tt h

-- ---- a slip's answer by any file, from its verdict

-- what is asked before 36, once a file is held: the key's questions, the digest's, the word's
abbrev pub first_asked : List ℕ → List ℕ → List ℕ → List Question
first_asked file digest word =
    key_questions file ++ (digest_questions (key_of file).field digest ++ word_questions word)

pub by_file : (ok : Bool) (file digest word : List ℕ)
    → first_no (key_questions file ++ chip_questions ok (key_of file) digest word)
    ≡ on_chip ok (verdict file digest word)
unfolding verdict
by_file ok file digest word =
    between ok (first_asked file digest word) (last ok (key_of file) digest word) tt
    (last_verdict ok (key_of file) digest word)
