-- The shelf of a history. Each slot holds an accepted key, with zeros after it, or zeros alone. So clearing an empty
-- number changes no byte. A slip that is judged gets the answer of its own questions, 36 among them, under the key of
-- the last load. It never gets the number of a key's question.
use Prim.Native.Nat.{ℕ, ◌+◌, ◌≤◌}
use mathlib.Core.Path.{◌≡◌, sym, ap, ◌∙◌, subst}
use mathlib.Core.Bool.{true}
use mathlib.Core.List.{List, [], ◌∷◌}
use mathlib.Core.Logic.{◌⊎◌, inl, inr, ⊎_elim}
use native.Mathlib.Decide.{ℕ_discrete}
use native.Mathlib.Omega.{arith}
use borrow.Author.Tests.{ltb-true, eq-eqb}
use lib.ListN.{length}
use Rattle.base.specs.Questions.{first_no}
use Rattle.base.specs.Digits.{part}
use Rattle.key.specs.Keys.{key_answer, key_of}
use Rattle.word.specs.Words.{letters}
use Rattle.slip_verdict.specs.Verdict.{verdict}
use Rattle.shelf.specs.Shelves.{slot_bytes, shelf_bytes, empty_shelf, has_slot, slot_place, slot_with, held, is_held}
use Rattle.shelf.specs.Shelves.{holding}
use Rattle.shelf.specs.Shelves.{replaced}
use Rattle.shelf.specs.Charges.{admitted}
use Rattle.shelf.specs.Calls.{clear, judge, chip_questions, answer_to, after}
use Rattle.shelf.proofs.ReplacedLaws.{replaced_same}
use Rattle.shelf.proofs.SlotLaws.{slot_in_slots, slot_fits, slot_empty, held_empty, slot_holding, held_there}
use Rattle.shelf.proofs.SlotLaws.{slot_elsewhere, held_elsewhere}
use Rattle.shelf.proofs.ChargeLaws.{Past, slots_past, held_past}
use Rattle.shelf.proofs.ChipLaws.{on_chip}
use Rattle.shelf.proofs.CallLaws.{acted, clear_answer, judge_answer, judge_slip}
use Rattle.shelf_histories.specs.Histories.{Call, shelf_after}
use Rattle.shelf_histories.proofs.HeldAfter.{Put, after_keeps}
use Rattle.shelf_histories.proofs.LastLoad.{room}

-- a slot with an accepted key and zeros, or with zeros alone
pub record Proper (p n : ℕ) (shelf : List ℕ) : Type 0 where
  pub slot_is : part (slot_place p n) slot_bytes shelf ≡ slot_with (held p n shelf)
  pub key_or_none : (key_answer (held p n shelf) ≡ 0) ⊎ (held p n shelf ≡ [])

abbrev AllProper : List ℕ → Type 0
AllProper shelf = (p n : ℕ) → has_slot p n ≡ true → Proper p n shelf

empty_proper : AllProper empty_shelf
empty_proper p n e =
    record {
      slot_is = slot_empty p n e ∙ ap slot_with (sym (held_empty p n));
      key_or_none = inr (held_empty p n);
    }

-- number m of publisher q is given a key, or none
module _ (q m : ℕ) (file shelf : List ℕ) (put : Put q m file) (room : shelf_bytes ≤ length shelf)
    (all : AllProper shelf) where
  there : Proper q m (holding q m file shelf)
  there =
      let t = held_there q m put.has file put.fits shelf room in
      record {
        slot_is = slot_holding q m put.has file put.fits shelf room ∙ ap slot_with (sym t);
        key_or_none = ⊎_elim (λ k. inl (ap key_answer t ∙ k)) (λ z. inr (t ∙ z)) put.key_or_none;
      }

  elsewhere : (p n : ℕ) → has_slot p n ≡ true → ((q ≡ p) × (m ≡ n) → ⊥) → Proper p n (holding q m file shelf)
  elsewhere p n e h =
      let t = held_elsewhere q m put.has file put.fits shelf room p n h in
      let was = all p n e in
      record {
        slot_is =
            slot_elsewhere q m put.has file put.fits shelf room p n e h ∙ was.slot_is ∙ ap slot_with (sym t);
        key_or_none = ⊎_elim (λ k. inl (ap key_answer t ∙ k)) (λ z. inr (t ∙ z)) was.key_or_none;
      }

  still_proper : AllProper (holding q m file shelf)
  still_proper p n e = go (ℕ_discrete q p) (ℕ_discrete m n)
    where
      go : Dec (q ≡ p) → Dec (m ≡ n) → Proper p n (holding q m file shelf)
      go (yes a) (yes b) =
          subst (λ (i : ℕ). Proper i n (holding q m file shelf)) a
          (subst (λ (j : ℕ). Proper q j (holding q m file shelf)) b there)
      go (yes a) (no d) = elsewhere p n e (λ s. d s.1)
      go (no d) b = elsewhere p n e (λ s. d s.0)

-- a change past the slots
past_proper : (at : ℕ) (bytes : List ℕ) → Past at bytes → (shelf : List ℕ) → shelf_bytes ≤ length shelf
    → AllProper shelf → AllProper (replaced at bytes shelf)
past_proper at bytes past shelf room all p n e =
    let t = held_past at bytes past shelf room p n in
    let was = all p n e in
    record {
      slot_is =
          slots_past at bytes past shelf room (slot_place p n) slot_bytes (slot_in_slots p n e) ∙ was.slot_is
          ∙ ap slot_with (sym t);
      key_or_none = ⊎_elim (λ k. inl (ap key_answer t ∙ k)) (λ z. inr (t ∙ z)) was.key_or_none;
    }

pub proper : (h : List Call) → AllProper (shelf_after h)
unfolding shelf_after
proper [] = empty_proper
proper (c ∷ h) =
    after_keeps AllProper c.publisher c.work (shelf_after h) (proper h)
    (λ n file put. still_proper c.publisher n file (shelf_after h) put (room h) (proper h))
    (λ at bytes past. past_proper at bytes past (shelf_after h) (room h) (proper h))

module _ (h : List Call) (p n : ℕ) (e : has_slot p n ≡ true) where
  -- clearing an empty number succeeds and changes nothing
  pub clearing_empty : held p n (shelf_after h) ≡ []
      → (answer_to p (clear n) (shelf_after h) ≡ 0) × (after p (clear n) (shelf_after h) ≡ shelf_after h)
  clearing_empty none =
      let z = clear_answer p n (shelf_after h) e in
      let fits : slot_place p n + slot_bytes ≤ length (shelf_after h) = omega (arith, slot_fits p n e, room h) in (
        z,
        acted p (clear n) (shelf_after h) (eq-eqb (answer_to p (clear n) (shelf_after h)) 0 z)
            ∙ ap (λ (s : List ℕ). replaced (slot_place p n) s (shelf_after h))
            (ap slot_with (sym none) ∙ sym (proper h p n e).slot_is)
            ∙ replaced_same (slot_place p n) slot_bytes (shelf_after h) fits,
      )

  -- a slip is judged by the key that is held
  module _ (digest word : List ℕ) (some : is_held (held p n (shelf_after h)) ≡ true) where
    abbrev file : List ℕ
    file = held p n (shelf_after h)

    pub held_key : key_answer file ≡ 0
    held_key = ⊎_elim (λ k. k) (λ z. absurd (not_empty file z some)) (proper h p n e).key_or_none
      where
        not_empty : (l : List ℕ) → l ≡ [] → is_held l ≡ true → ⊥
        not_empty l z t = omega (arith, ap length z, ltb-true 0 (length l) t)

    -- a slip gets what the whole verdict gives with the file that is held, or 36 in the verdict's place
    pub judged_as_verdict : answer_to p (judge n digest word) (shelf_after h)
        ≡ on_chip (admitted p (length (letters word)) (shelf_after h)) (verdict file digest word)
    judged_as_verdict = judge_answer p n (shelf_after h) digest word e some

    -- no question of the key is answered no
    pub judged_by_slip : answer_to p (judge n digest word) (shelf_after h)
        ≡ first_no
        (chip_questions (admitted p (length (letters word)) (shelf_after h)) (key_of file) digest word)
    judged_by_slip = judge_slip p n (shelf_after h) digest word e some held_key
