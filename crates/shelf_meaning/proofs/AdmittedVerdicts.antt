-- Where slips are judged on the chip, demand 2's acceptance and the verdicts of demand 3 and §12 are those of admitted
-- slips. An answer other than 36 is the verdict under the file that is held. A word and its rewritten or cloaked word
-- get the same answer if neither gets 36. All this holds of every shelf, whatever its bytes are.
use Prim.Native.Nat.{ℕ}
use mathlib.Core.Path.{◌≡◌, refl, sym, ap, ◌∙◌}
use mathlib.Core.Bool.{Bool, true, false, cond, not, ◌&&◌}
use mathlib.Core.List.{List}
use mathlib.Core.Logic.{◌⊎◌, inl, inr, ⊎_elim, ◌↔◌}
use native.Mathlib.Decide.{ℕ_discrete}
use native.Mathlib.Omega.{arith}
use lib.ListN.{length}
use Rattle.base.proofs.ListLaws.{true_false}
use Rattle.field.specs.Fields.{digest_bytes}
use Rattle.word.specs.Words.{codes, word_answer, word_file, letters}
use Rattle.key.specs.Keys.{key_field, key_answer}
use Rattle.slip_verdict.specs.Verdict.{verdict}
use Rattle.slip_verdict.proofs.VerdictIff.{Signs, zero_iff_signs, key_refused, digest_refused}
use Rattle.slip_meaning.specs.Meaning.{SameMeaning}
use Rattle.slip_insertion.specs.Insertion.{Alteration, alterations, AllowedAll, Insertion, insertions, HidesAll}
use Rattle.slip_insertion.proofs.CloaksAnywhere.{SameVerdicts, cloaks_inserted}
use Rattle.shelf.specs.Shelves.{has_slot, held, is_held}
use Rattle.shelf.specs.Charges.{admitted}
use Rattle.shelf.specs.Calls.{judge, answer_to, is_verdict}
use Rattle.shelf.proofs.ChipLaws.{on_chip}
use Rattle.shelf.proofs.CallLaws.{judge_30, judge_31, judge_answer}

-- ---- demand 2

-- a slip that is judged by a key gets the verdict, or 36
module _ (p n : ℕ) (digest word shelf : List ℕ) (e : has_slot p n ≡ true) (h : is_held (held p n shelf) ≡ true) where
  abbrev ok : Bool
  ok = admitted p (length (letters word)) shelf

  pub verdict_or_36 : (answer_to p (judge n digest word) shelf ≡ verdict (held p n shelf) digest word)
      ⊎ (answer_to p (judge n digest word) shelf ≡ 36)
  verdict_or_36 =
      go (is_verdict (verdict (held p n shelf) digest word) && not ok) (judge_answer p n shelf digest word e h)
    where
      go : (b : Bool) {a v : ℕ} → a ≡ cond b 36 v → (a ≡ v) ⊎ (a ≡ 36)
      go true d = inr d
      go false d = inl d

  -- an answer that is not 36 is the verdict
  pub admitted_verdict : (answer_to p (judge n digest word) shelf ≡ 36 → ⊥)
      → answer_to p (judge n digest word) shelf ≡ verdict (held p n shelf) digest word
  admitted_verdict r = ⊎_elim (λ v. v) (λ z. absurd (r z)) verdict_or_36

  -- an admitted slip is accepted if and only if key, digest and word are accepted and the matrices are equal
  pub accepted_iff : ok ≡ true
      → (answer_to p (judge n digest word) shelf ≡ 0) ↔ Signs (held p n shelf) digest word
  accepted_iff a =
      let s = judge_answer p n shelf digest word e h
      ∙ ap (λ (b : Bool). on_chip b (verdict (held p n shelf) digest word)) a
      ∙ free (is_verdict (verdict (held p n shelf) digest word)) in
      let z = zero_iff_signs (held p n shelf) digest word in
      (λ d. z.0 (sym s ∙ d), λ g. s ∙ z.1 g)
    where
      free : (b : Bool) {v : ℕ} → cond (b && false) 36 v ≡ v
      free true = refl
      free false = refl

  -- a slip that is not admitted is not accepted
  pub accepted_admitted : answer_to p (judge n digest word) shelf ≡ 0 → ok ≡ true
  accepted_admitted z = go ok refl
    where
      lost : (v : ℕ) → on_chip false v ≡ 0 → ⊥
      lost v d = in_case (is_verdict v) refl d
        where
          in_case : (b : Bool) → is_verdict v ≡ b → cond (b && true) 36 v ≡ 0 → ⊥
          in_case true e d = omega arith
          in_case false e d = true_false (is_verdict v) (ap is_verdict d) e

      go : (b : Bool) → ok ≡ b → ok ≡ true
      go true a = a
      go false a =
          absurd (lost (verdict (held p n shelf) digest word)
          (sym (judge_answer p n shelf digest word e h
          ∙ ap (λ (b : Bool). on_chip b (verdict (held p n shelf) digest word)) a) ∙ z))

-- ---- demand 3 and §12

-- two words with the same verdict under the file that is held, judged on two shelves that hold it
module _ (p n : ℕ) (digest word new first second : List ℕ) (same : held p n first ≡ held p n second)
    (one : answer_to p (judge n digest word) first ≡ 36 → ⊥) (two : answer_to p (judge n digest new) second ≡ 36 → ⊥)
  where
    alike : verdict (held p n first) digest new ≡ verdict (held p n first) digest word
        → answer_to p (judge n digest new) second ≡ answer_to p (judge n digest word) first
    alike v = go (has_slot p n) refl (is_held (held p n first)) refl
      where
        go : (b : Bool) → has_slot p n ≡ b → (c : Bool) → is_held (held p n first) ≡ c
            → answer_to p (judge n digest new) second ≡ answer_to p (judge n digest word) first
        go false e c f = judge_30 p n second digest new e ∙ sym (judge_30 p n first digest word e)
        go true e false f =
            judge_31 p n second digest new e (ap is_held (sym same) ∙ f) ∙ sym (judge_31 p n first digest word e f)
        go true e true f =
            admitted_verdict p n digest new second e (ap is_held (sym same) ∙ f) two
            ∙ ap (λ (k : List ℕ). verdict k digest new) (sym same) ∙ v
            ∙ sym (admitted_verdict p n digest word first e f one)

    -- a rewritten word gets the answer of the word, where both are admitted
    pub rewritten_alike : SameMeaning word new
        → answer_to p (judge n digest new) second ≡ answer_to p (judge n digest word) first
    rewritten_alike m =
        alike (go (ℕ_discrete (key_answer file) 0) (ℕ_discrete (length digest) (digest_bytes (key_field file))))
      where
        file : List ℕ
        file = held p n first

        go : Dec (key_answer file ≡ 0) → Dec (length digest ≡ digest_bytes (key_field file))
            → verdict file digest new ≡ verdict file digest word
        go (no k) d = key_refused file digest new k ∙ sym (key_refused file digest word k)
        go (yes k) (no d) = digest_refused file digest new k d ∙ sym (digest_refused file digest word k d)
        go (yes k) (yes d) = m.verdicts file digest k d

    -- a word that is cloaked under the key that is held gets the answer of the word, where both are admitted
    pub cloaked_alike : SameVerdicts (held p n first) word new
        → answer_to p (judge n digest new) second ≡ answer_to p (judge n digest word) first
    cloaked_alike s = alike (s.verdicts digest)

-- cloaking words inserted one after another
pub insertions_alike : (p n : ℕ) (digest word shelf : List ℕ) (is : List Insertion)
    → key_answer (held p n shelf) ≡ 0 → word_answer word ≡ 0 → HidesAll (held p n shelf) is (codes word)
    → (answer_to p (judge n digest word) shelf ≡ 36 → ⊥)
    → (answer_to p (judge n digest (word_file (insertions is (codes word)))) shelf ≡ 36 → ⊥)
    → answer_to p (judge n digest (word_file (insertions is (codes word)))) shelf
    ≡ answer_to p (judge n digest word) shelf
insertions_alike p n digest word shelf is k a h one two =
    cloaked_alike p n digest word (word_file (insertions is (codes word))) shelf shelf refl one two
    (cloaks_inserted (held p n shelf) word k a is h)
