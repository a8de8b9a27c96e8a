-- How one publisher affects the other. An answer depends on the publisher's own keys and on the two charges, and on
-- nothing else of a shelf: 36 is decided by the slip's letters and the two charges. So the keys, verdicts and refusals
-- of one publisher do not affect the other, whatever bytes the shelf has.
use Prim.Native.Nat.{ℕ, ◌≤◌}
use mathlib.Core.Path.{◌≡◌, refl, sym, ap, ap₂, ◌∙◌}
use mathlib.Core.Bool.{Bool, true, false, cond}
use mathlib.Core.List.{List, [], ◌∷◌, ◌++◌}
use mathlib.Core.Logic.{⊎_elim}
use borrow.Author.Tests.{ne_eqb, eqb-true}
use lib.Dec.{eqb}
use lib.ListN.{length}
use Rattle.base.specs.Questions.{◌else◌, first_no}
use Rattle.word.specs.Words.{letters}
use Rattle.key.specs.Keys.{key_questions, key_of}
use Rattle.shelf.specs.Shelves.{shelf_bytes, is_publisher, has_slot, held, is_held}
use Rattle.shelf.specs.Charges.{charged, partner, admits, charging}
use Rattle.shelf.specs.Calls.{Work, load, clear, judge, round, chip_questions, answer_to, is_verdict, acts, after}
use Rattle.shelf.proofs.ChargeLaws.{one_or_two}
use Rattle.shelf.proofs.CallLaws.{left_alone, acted}
use Rattle.shelf_histories.specs.Histories.{Call, shelf_after, own, file_after}
use Rattle.shelf_histories.proofs.HeldAfter.{put_by_load, put_by_clear, held_after}
use Rattle.shelf_histories.proofs.Separation.{same_keys}
use Rattle.shelf_fair.specs.FairUse.{letters_charged}
use Rattle.shelf_fair.proofs.ChargedAfter.{charged_holding, charged_is}

-- two shelves with the same own keys and the same charges answer alike
pub same_answer : (p : ℕ) (work : Work) (first second : List ℕ) → ((n : ℕ) → held p n first ≡ held p n second)
    → charged p first ≡ charged p second → charged (partner p) first ≡ charged (partner p) second
    → answer_to p work first ≡ answer_to p work second
unfolding answer_to
same_answer p (load n file) first second h own others = refl
same_answer p (clear n) first second h own others = refl
same_answer p (judge n digest word) first second h own others =
    ap₂ (λ (file : List ℕ) (ok : Bool).
    first_no ((has_slot p n else 30) ∷ (is_held file else 31)
    ∷ (key_questions file ++ chip_questions ok (key_of file) digest word)))
    (h n) (ap₂ (admits (length (letters word))) own others)
same_answer p round first second h own others = refl

-- Two histories in which a publisher's own calls agree, and so do the letters charged to each publisher: the next call
-- gets the same answer in both, 36 or not.
pub histories_alike : (p : ℕ) → is_publisher p ≡ true → (work : Work) (first second : List Call)
    → own p first ≡ own p second
    → letters_charged p first ≡ letters_charged p second
    → letters_charged (partner p) first ≡ letters_charged (partner p) second
    → answer_to p work (shelf_after first) ≡ answer_to p work (shelf_after second)
histories_alike p e work first second calls mine theirs =
    same_answer p work (shelf_after first) (shelf_after second) (same_keys p first second calls) (alike p e mine)
    (alike (partner p) other theirs)
  where
    other : is_publisher (partner p) ≡ true
    other =
        ⊎_elim (λ a. ap (λ (q : ℕ). is_publisher (partner q)) a) (λ a. ap (λ (q : ℕ). is_publisher (partner q)) a)
        (one_or_two p e)

    alike : (q : ℕ) → is_publisher q ≡ true → letters_charged q first ≡ letters_charged q second
        → charged q (shelf_after first) ≡ charged q (shelf_after second)
    alike q f l = charged_is q f first ∙ l ∙ sym (charged_is q f second)

module _ (p q : ℕ) (apart : q ≡ p → ⊥) (shelf : List ℕ) (room : shelf_bytes ≤ length shelf) where
  -- the other's call leaves the publisher's keys
  keys_stay : (work : Work) (n : ℕ) → held p n (after q work shelf) ≡ held p n shelf
  keys_stay work n =
      held_after q work shelf room p n
      ∙ ap (λ (b : Bool). cond b
      (cond (acts work (answer_to q work shelf)) (file_after n work (held p n shelf)) (held p n shelf))
      (held p n shelf))
      (ne_eqb q p apart)

  -- the other's keys have no effect: a load or a clear changes no charge
  load_charge : (i n : ℕ) (file : List ℕ) → charged i (after q (load n file) shelf) ≡ charged i shelf
  load_charge i n file = go (eqb (answer_to q (load n file) shelf) 0) refl
    where
      go : (b : Bool) → eqb (answer_to q (load n file) shelf) 0 ≡ b
          → charged i (after q (load n file) shelf) ≡ charged i shelf
      go true e =
          ap (charged i) (acted q (load n file) shelf e)
          ∙ charged_holding i q n file (put_by_load q n file shelf (eqb-true _ 0 e)) shelf room
      go false e = ap (charged i) (left_alone q (load n file) shelf e)

  clear_charge : (i n : ℕ) → charged i (after q (clear n) shelf) ≡ charged i shelf
  clear_charge i n = go (eqb (answer_to q (clear n) shelf) 0) refl
    where
      go : (b : Bool) → eqb (answer_to q (clear n) shelf) 0 ≡ b
          → charged i (after q (clear n) shelf) ≡ charged i shelf
      go true e =
          ap (charged i) (acted q (clear n) shelf e)
          ∙ charged_holding i q n [] (put_by_clear q n shelf (eqb-true _ 0 e)) shelf room
      go false e = ap (charged i) (left_alone q (clear n) shelf e)

  pub others_load : (work : Work) (n : ℕ) (file : List ℕ)
      → answer_to p work (after q (load n file) shelf) ≡ answer_to p work shelf
  others_load work n file =
      same_answer p work (after q (load n file) shelf) shelf (keys_stay (load n file)) (load_charge p n file)
      (load_charge (partner p) n file)

  pub others_clear : (work : Work) (n : ℕ) → answer_to p work (after q (clear n) shelf) ≡ answer_to p work shelf
  others_clear work n =
      same_answer p work (after q (clear n) shelf) shelf (keys_stay (clear n)) (clear_charge p n)
      (clear_charge (partner p) n)

-- the other's refusals have no effect: they leave the shelf
pub others_refusal : (q : ℕ) (refused : Work) (shelf : List ℕ) → acts refused (answer_to q refused shelf) ≡ false
    → (p : ℕ) (work : Work) → answer_to p work (after q refused shelf) ≡ answer_to p work shelf
others_refusal q refused shelf e p work = ap (answer_to p work) (left_alone q refused shelf e)

-- The other's verdicts have no effect. Two slips with the same number of letters that both get a verdict, 0 or 14,
-- leave the same shelf, whatever the keys, the digests and the words.
pub others_verdict : (q : ℕ) (shelf : List ℕ) (n m : ℕ) (digest word other new : List ℕ)
    → is_verdict (answer_to q (judge n digest word) shelf) ≡ true
    → is_verdict (answer_to q (judge m other new) shelf) ≡ true → length (letters word) ≡ length (letters new)
    → after q (judge n digest word) shelf ≡ after q (judge m other new) shelf
others_verdict q shelf n m digest word other new v w e =
    acted q (judge n digest word) shelf v
    ∙ ap (λ (k : ℕ). charging q k shelf) e
    ∙ sym (acted q (judge m other new) shelf w)
