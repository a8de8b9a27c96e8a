-- The publishers are apart. Two histories from the empty shelf in which one publisher made the same calls with the same
-- files in the same order give it the same keys, whatever the other did. They give it the same answers too, if its
-- answers 36 stand at the same calls: every other answer is the one that §8 gives, which its own calls decide. This
-- holds for every publisher number: one that is not 1 or 2 gets 30 always.
use Prim.Native.Nat.{ℕ}
use mathlib.Core.Path.{◌≡◌, refl, sym, ap, ap₂, ◌∙◌, subst}
use mathlib.Core.Bool.{Bool, true, false, cond, not, ◌&&◌}
use mathlib.Core.List.{List, [], ◌∷◌}
use mathlib.Core.Logic.{◌⊎◌, inl, inr, ⊎_elim}
use borrow.Author.Tests.{eqb-true, eq-eqb}
use lib.Dec.{eqb, leb}
use lib.ListN.{length}
use Rattle.base.specs.Questions.{◌else◌, first_no}
use Rattle.base.proofs.QuestionLaws.{passes, fails}
use Rattle.word.specs.Words.{letters}
use Rattle.slip_verdict.specs.Verdict.{verdict_questions, verdict}
use Rattle.shelf.specs.Shelves.{is_publisher, has_slot, held, is_held}
use Rattle.shelf.specs.Charges.{admitted}
use Rattle.shelf.specs.Calls.{Work, load, clear, judge, round, answer_to, is_verdict, acts}
use Rattle.shelf.proofs.SlotLaws.{held_none}
use Rattle.shelf.proofs.ChipLaws.{on_chip}
use Rattle.shelf.proofs.CallLaws.{load_30, clear_30, judge_30, judge_31, judge_answer, round_30}
use Rattle.shelf_histories.specs.Histories.{Call, shelf_after, own, Answered, seen, unlimited, unlimited_seen}
use Rattle.shelf_histories.specs.Histories.{where36, file_after}
use Rattle.shelf_histories.proofs.HeldAfter.{same_either, held_after}
use Rattle.shelf_histories.proofs.LastLoad.{room}

-- ---- keys

-- what a number holds after a publisher's own call does not depend on the answer to a slip
settled : (q : ℕ) (work : Work) (n : ℕ) (first second file : List ℕ)
    → cond (acts work (answer_to q work first)) (file_after n work file) file
    ≡ cond (acts work (answer_to q work second)) (file_after n work file) file
unfolding answer_to
settled q (load m f) n first second file = refl
settled q (clear m) n first second file = refl
settled q (judge m digest word) n first second file =
    sym (same_either (is_verdict (answer_to q (judge m digest word) first)) file)
    ∙ same_either (is_verdict (answer_to q (judge m digest word) second)) file
settled q round n first second file = refl

-- a publisher holds the keys that it would hold without the other's calls
keys_alone : (p n : ℕ) (h : List Call) → held p n (shelf_after h) ≡ held p n (shelf_after (own p h))
unfolding shelf_after own
keys_alone p n [] = refl
keys_alone p n (c ∷ h) =
    held_after c.publisher c.work (shelf_after h) (room h) p n
    ∙ go (eqb c.publisher p) refl (keys_alone p n h)
  where
    kept : List ℕ → List ℕ → List ℕ
    kept shelf file = cond (acts c.work (answer_to c.publisher c.work shelf)) (file_after n c.work file) file

    go : (b : Bool) → eqb c.publisher p ≡ b → held p n (shelf_after h) ≡ held p n (shelf_after (own p h))
        → cond b (kept (shelf_after h) (held p n (shelf_after h))) (held p n (shelf_after h))
        ≡ held p n (shelf_after (cond b (c ∷ own p h) (own p h)))
    go true e s =
        settled c.publisher c.work n (shelf_after h) (shelf_after (own p h)) (held p n (shelf_after h))
        ∙ ap (kept (shelf_after (own p h))) s
        ∙ ap (λ (b : Bool). cond b (kept (shelf_after (own p h)) (held p n (shelf_after (own p h))))
        (held p n (shelf_after (own p h)))) (sym e)
        ∙ sym (held_after c.publisher c.work (shelf_after (own p h)) (room (own p h)) p n)
    go false e s = s

-- two histories with the same own calls give the same keys, whatever the other did and wherever 36 stands
pub same_keys : (p : ℕ) (first second : List Call) → own p first ≡ own p second
    → (n : ℕ) → held p n (shelf_after first) ≡ held p n (shelf_after second)
same_keys p first second e n =
    keys_alone p n first ∙ ap (λ (h : List Call). held p n (shelf_after h)) e ∙ sym (keys_alone p n second)

-- ---- answers

-- an answer without the limit depends only on the keys under the publisher's own numbers
same_unlimited : (p : ℕ) (work : Work) (first second : List ℕ) → ((n : ℕ) → held p n first ≡ held p n second)
    → unlimited p work first ≡ unlimited p work second
unfolding answer_to
same_unlimited p (load n file) first second h = refl
same_unlimited p (clear n) first second h = refl
same_unlimited p (judge n digest word) first second h =
    ap (λ (file : List ℕ).
    first_no ((has_slot p n else 30) ∷ (is_held file else 31) ∷ verdict_questions file digest word))
    (h n)
same_unlimited p round first second h = refl

-- an answer is 36, or what it is without the limit
pub unless_36 : (p : ℕ) (work : Work) (shelf : List ℕ)
    → (answer_to p work shelf ≡ 36) ⊎ (answer_to p work shelf ≡ unlimited p work shelf)
unfolding verdict
unless_36 p (load n file) shelf = inr refl
unless_36 p (clear n) shelf = inr refl
unless_36 p (judge n digest word) shelf = go (has_slot p n) refl (is_held (held p n shelf)) refl
  where
    answer : ℕ
    answer = answer_to p (judge n digest word) shelf

    free : ℕ
    free = unlimited p (judge n digest word) shelf

    -- the verdict, or 36 in its place
    placed : (b : Bool) {v a : ℕ} → a ≡ cond b 36 v → free ≡ v → a ≡ answer → (answer ≡ 36) ⊎ (answer ≡ free)
    placed true e f s = inl (sym s ∙ e)
    placed false e f s = inr (sym s ∙ e ∙ sym f)

    go : (b : Bool) → has_slot p n ≡ b → (d : Bool) → is_held (held p n shelf) ≡ d
        → (answer ≡ 36) ⊎ (answer ≡ free)
    go true e true f =
        placed
        (is_verdict (verdict (held p n shelf) digest word) && not (admitted p (length (letters word)) shelf))
        (judge_answer p n shelf digest word e f)
        (passes 30 ((is_held (held p n shelf) else 31) ∷ verdict_questions (held p n shelf) digest word) e
        ∙ passes 31 (verdict_questions (held p n shelf) digest word) f)
        refl
    go true e false f =
        inr (judge_31 p n shelf digest word e f
        ∙ sym (passes 30 ((is_held (held p n shelf) else 31) ∷ verdict_questions (held p n shelf) digest word) e
        ∙ fails 31 (verdict_questions (held p n shelf) digest word) f))
    go false e d f =
        inr (judge_30 p n shelf digest word e
        ∙ sym (fails 30 ((is_held (held p n shelf) else 31) ∷ verdict_questions (held p n shelf) digest word) e))
unless_36 p round shelf = inr refl

-- 36 put at the calls that are marked
abbrev marked : List Bool → List Answered → List Answered
marked [] calls = calls
marked (b ∷ bs) [] = []
marked (b ∷ bs) (a ∷ calls) = record { work = a.work; answer = cond b 36 a.answer } ∷ marked bs calls

-- an answer that is seen, if it is the publisher's own
abbrev entry : Call → ℕ → Answered
entry c answer = record { work = c.work; answer = answer }

abbrev shown : Bool → Call → ℕ → List Answered → List Answered
shown b c answer rest = cond b (entry c answer ∷ rest) rest

-- a publisher sees what it would see without the limit, but for 36
but_36 : (p : ℕ) (h : List Call) → seen p h ≡ marked (where36 (seen p h)) (unlimited_seen p h)
unfolding seen unlimited_seen
but_36 p [] = refl
but_36 p (c ∷ h) = go (eqb c.publisher p) (but_36 p h)
  where
    answer : ℕ
    answer = answer_to c.publisher c.work (shelf_after h)

    free : ℕ
    free = unlimited c.publisher c.work (shelf_after h)

    one : answer ≡ cond (eqb answer 36) 36 free
    one = in_case (eqb answer 36) refl (unless_36 c.publisher c.work (shelf_after h))
      where
        in_case : (b : Bool) → eqb answer 36 ≡ b → (answer ≡ 36) ⊎ (answer ≡ free) → answer ≡ cond b 36 free
        in_case true e d = eqb-true answer 36 e
        in_case false e (inl d) = absurd (contradiction (sym e ∙ eq-eqb answer 36 d))
          where
            contradiction : false ≡ true → ⊥
            contradiction z = subst (λ (b : Bool). cond b ⊥ (Unit {0})) z tt
        in_case false e (inr d) = d

    go : (b : Bool) → seen p h ≡ marked (where36 (seen p h)) (unlimited_seen p h)
        → shown b c answer (seen p h)
        ≡ marked (where36 (shown b c answer (seen p h))) (shown b c free (unlimited_seen p h))
    go true s = ap₂ (λ (a : ℕ) (rest : List Answered). entry c a ∷ rest) one s
    go false s = s

-- without the limit, a publisher sees what it would see without the other's calls
pub alone : (p : ℕ) (h : List Call) → unlimited_seen p h ≡ unlimited_seen p (own p h)
unfolding unlimited_seen own
alone p [] = refl
alone p (c ∷ h) = go (eqb c.publisher p) refl (alone p h)
  where
    answer : List Call → ℕ
    answer earlier = unlimited c.publisher c.work (shelf_after earlier)

    same : c.publisher ≡ p → answer h ≡ answer (own p h)
    same e =
        same_unlimited c.publisher c.work (shelf_after h) (shelf_after (own p h))
        (subst (λ (q : ℕ). (n : ℕ) → held q n (shelf_after h) ≡ held q n (shelf_after (own p h))) (sym e)
        (λ n. keys_alone p n h))

    go : (b : Bool) → eqb c.publisher p ≡ b → unlimited_seen p h ≡ unlimited_seen p (own p h)
        → shown b c (answer h) (unlimited_seen p h) ≡ unlimited_seen p (cond b (c ∷ own p h) (own p h))
    go true e s =
        ap₂ (λ (a : ℕ) (rest : List Answered). entry c a ∷ rest) (same (eqb-true c.publisher p e)) s
        ∙ ap (λ (b : Bool). shown b c (answer (own p h)) (unlimited_seen p (own p h))) (sym e)
    go false e s = s

-- two histories give a publisher the same answers, in order, and the same keys
pub record Alike (p : ℕ) (first second : List Call) : Type 0 where
  pub answers : seen p first ≡ seen p second
  pub keys : (n : ℕ) → held p n (shelf_after first) ≡ held p n (shelf_after second)

-- two histories with the same own calls, and 36 at the same ones, give the same answers and keys
pub separate : (p : ℕ) (first second : List Call) → own p first ≡ own p second
    → where36 (seen p first) ≡ where36 (seen p second) → Alike p first second
separate p first second e m =
    record {
      answers =
          but_36 p first
          ∙ ap₂ marked m (alone p first ∙ ap (unlimited_seen p) e ∙ sym (alone p second))
          ∙ sym (but_36 p second);
      keys = same_keys p first second e;
    }

-- a publisher that is not 1 or 2 is nobody: each of its calls gets 30, and it holds no key
no_slot : (p n : ℕ) → is_publisher p ≡ false → has_slot p n ≡ false
no_slot p n e = ap (λ (b : Bool). b && leb n 3) e

pub nobody : (p : ℕ) → is_publisher p ≡ false → (work : Work) (shelf : List ℕ) → answer_to p work shelf ≡ 30
nobody p e (load n file) shelf = load_30 p n shelf file (no_slot p n e)
nobody p e (clear n) shelf = clear_30 p n shelf (no_slot p n e)
nobody p e (judge n digest word) shelf = judge_30 p n shelf digest word (no_slot p n e)
nobody p e round shelf = round_30 p shelf e

pub nobody_holds : (p n : ℕ) → is_publisher p ≡ false → (shelf : List ℕ) → held p n shelf ≡ []
nobody_holds p n e shelf = held_none p n shelf (no_slot p n e)
