-- What is charged to a publisher after a call, and after a history: the letters of its admitted slips since the round
-- began. What a call charges holds of every shelf, whatever its bytes are.
use Prim.Native.Nat.{ℕ, ◌+◌, ◌≤◌}
use mathlib.Core.Path.{◌≡◌, refl, sym, ap, ◌∙◌}
use mathlib.Core.Bool.{Bool, true, false, cond, not, ◌&&◌}
use mathlib.Core.List.{List, [], ◌∷◌}
use mathlib.Core.Logic.{inr}
use native.Mathlib.Omega.{arith}
use borrow.Author.Tests.{eqb-true, eqb-false}
use lib.Dec.{eqb, leb}
use lib.ListN.{length}
use Rattle.base.proofs.ListLaws.{and_left, true_false}
use Rattle.word.specs.Words.{letters}
use Rattle.slip_verdict.specs.Verdict.{verdict}
use Rattle.shelf.specs.Shelves.{shelf_bytes, is_publisher, has_slot, held, is_held, holding}
use Rattle.shelf.specs.Charges.{charge_place, charged, admitted, charging}
use Rattle.shelf.specs.Calls.{Work, load, clear, judge, round, answer_to, done, is_verdict, acts, after}
use Rattle.shelf.proofs.SlotLaws.{slot_in_slots, beside_holding}
use Rattle.shelf.proofs.ChargeLaws.{charged_alike, charged_empty, charged_charging, charged_beside, charged_round}
use Rattle.shelf.proofs.ChipLaws.{on_chip}
use Rattle.shelf.proofs.CallLaws.{left_alone, acted, judge_31, judge_answer}
use Rattle.shelf_histories.specs.Histories.{Call, shelf_after}
use Rattle.shelf_histories.proofs.HeldAfter.{Put, put_by_load, put_by_clear, judging, length_after}
use Rattle.shelf_histories.proofs.LastLoad.{room}
use Rattle.shelf_fair.specs.FairUse.{letters_after, letters_charged}

-- a put changes no charge
pub charged_holding : (p q n : ℕ) (file : List ℕ) → Put q n file → (shelf : List ℕ) → shelf_bytes ≤ length shelf
    → charged p (holding q n file shelf) ≡ charged p shelf
charged_holding p q n file put shelf room =
    charged_alike p (holding q n file shelf) shelf
    (beside_holding q n put.has file put.fits shelf room (charge_place p) 2
    (inr (omega (arith, slot_in_slots q n put.has))))

-- a slip that gets a verdict was admitted
pub verdict_admitted : (p n : ℕ) (digest word shelf : List ℕ)
    → is_verdict (answer_to p (judge n digest word) shelf) ≡ true → admitted p (length (letters word)) shelf ≡ true
verdict_admitted p n digest word shelf z =
    go (is_held (held p n shelf)) refl (admitted p (length (letters word)) shelf) refl
  where
    has : has_slot p n ≡ true
    has = judging p n digest word shelf z

    -- 36 is no verdict
    lost : (v : ℕ) → is_verdict (on_chip false v) ≡ false
    lost v = in_case (is_verdict v) refl
      where
        in_case : (b : Bool) → is_verdict v ≡ b → is_verdict (cond (b && true) 36 v) ≡ false
        in_case true e = refl
        in_case false e = e

    go : (b : Bool) → is_held (held p n shelf) ≡ b → (ok : Bool) → admitted p (length (letters word)) shelf ≡ ok
        → admitted p (length (letters word)) shelf ≡ true
    go b f true a = a
    go false f false a = absurd (true_false _ z (ap is_verdict (judge_31 p n shelf digest word has f)))
    go true f false a =
        absurd (true_false _ z
        (ap is_verdict (judge_answer p n shelf digest word has f
        ∙ ap (λ (ok : Bool). on_chip ok (verdict (held p n shelf) digest word)) a)
        ∙ lost (verdict (held p n shelf) digest word)))

module _ (p : ℕ) (e : is_publisher p ≡ true) (q : ℕ) (work : Work) (shelf : List ℕ)
    (room : shelf_bytes ≤ length shelf) where
  -- after work that acted
  charged_done : (w : Work) → acts w (answer_to q w shelf) ≡ true
      → charged p (done q w shelf) ≡ letters_after p q w (charged p shelf)
  charged_done (load n file) z =
      charged_holding p q n file (put_by_load q n file shelf (eqb-true (answer_to q (load n file) shelf) 0 z)) shelf
      room
  charged_done (clear n) z =
      charged_holding p q n [] (put_by_clear q n shelf (eqb-true (answer_to q (clear n) shelf) 0 z)) shelf room
  charged_done (judge n digest word) z = go (eqb q p) refl
    where
      has : is_publisher q ≡ true
      has = and_left (is_publisher q) (leb n 3) (judging q n digest word shelf z)

      own : charged q (charging q (length (letters word)) shelf) ≡ charged q shelf + length (letters word)
      own =
          charged_charging q (length (letters word)) shelf has room (verdict_admitted q n digest word shelf z)

      go : (b : Bool) → eqb q p ≡ b
          → charged p (charging q (length (letters word)) shelf)
          ≡ cond b (charged p shelf + length (letters word)) (charged p shelf)
      go true d =
          let s = eqb-true q p d in
          ap (λ (i : ℕ). charged i (charging q (length (letters word)) shelf)) (sym s) ∙ own
          ∙ ap (λ (i : ℕ). charged i shelf + length (letters word)) s
      go false d =
          charged_beside q has shelf room p (charged q shelf + length (letters word)) e (eqb-false q p d)
  charged_done round z = charged_round p e shelf room

  pub charged_after : charged p (after q work shelf)
      ≡ cond (acts work (answer_to q work shelf)) (letters_after p q work (charged p shelf)) (charged p shelf)
  charged_after = go (acts work (answer_to q work shelf)) refl
    where
      go : (b : Bool) → acts work (answer_to q work shelf) ≡ b
          → charged p (after q work shelf) ≡ cond b (letters_after p q work (charged p shelf)) (charged p shelf)
      go true d = ap (charged p) (acted q work shelf d) ∙ charged_done work d
      go false d = ap (charged p) (left_alone q work shelf d)

-- What is charged to a publisher after a history from the empty shelf is the sum of the letters of its admitted slips
-- since the round began.
pub charged_is : (p : ℕ) → is_publisher p ≡ true → (h : List Call) → charged p (shelf_after h) ≡ letters_charged p h
unfolding shelf_after letters_charged
charged_is p e [] = charged_empty p e
charged_is p e (c ∷ h) =
    charged_after p e c.publisher c.work (shelf_after h) (room h)
    ∙ ap (λ (k : ℕ). cond (acts c.work (answer_to c.publisher c.work (shelf_after h)))
    (letters_after p c.publisher c.work k) k) (charged_is p e h)
