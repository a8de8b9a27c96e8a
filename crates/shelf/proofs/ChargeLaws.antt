-- Laws of charges. What stands past the slots changes no key. A new round sets both charges to zero. An admitted slip's
-- letters are added to its publisher's charge, which is then at most 20,000, and the partner's charge stays. This holds
-- of every shelf, whatever its bytes are.
use Prim.Native.Nat.{ℕ, ◌+◌, ◌-◌, ◌*◌, ◌^◌, ◌≤◌, ◌<◌}
use mathlib.Core.Path.{◌≡◌, refl, sym, ap, ◌∙◌, subst}
use mathlib.Core.Bool.{Bool, true, false, ◌&&◌}
use mathlib.Core.List.{List, [], ◌∷◌, ◌++◌}
use mathlib.Core.Logic.{◌⊎◌, inl, inr, ⊎_elim}
use native.Mathlib.Omega.{arith}
use borrow.Author.Tests.{leb-true, leb-false, le-leb, lt-leb, eqb-true}
use lib.Dec.{eqb, leb}
use lib.ListN.{length, drop, get_or, replicate, length-drop}
use lib.Seq.{length-take-le}
use Rattle.base.specs.Digits.{value, digits, part}
use Rattle.base.proofs.DigitLaws.{length_digits, value_digits_below, value_below, take_below, drop_below}
use Rattle.shelf.specs.Shelves.{slot_bytes, slots_bytes, shelf_bytes, empty_shelf, is_publisher, has_slot, slot_place}
use Rattle.shelf.specs.Shelves.{held, replaced}
use Rattle.shelf.specs.Charges.{further, over_by, charge_place, charged, partner, admitted, charging, new_round}
use Rattle.shelf.proofs.ReplacedLaws.{length_replaced, part_replaced, part_inside, part_before}
use Rattle.shelf.proofs.ReplacedLaws.{part_after}
use Rattle.shelf.proofs.SlotLaws.{one_of, slot_in_slots, held_alike, zeros_within}

-- ---- bytes past the slots

-- bytes that stand past the slots, within a shelf
pub record Past (at : ℕ) (bytes : List ℕ) : Type 0 where
  pub beyond : slots_bytes ≤ at
  pub within : at + length bytes ≤ shelf_bytes

module _ (at : ℕ) (bytes : List ℕ) (past : Past at bytes) (shelf : List ℕ) (room : shelf_bytes ≤ length shelf) where
  fits : at + length bytes ≤ length shelf
  fits = omega (arith, past.within)

  pub length_past : length (replaced at bytes shelf) ≡ length shelf
  length_past = length_replaced at bytes shelf fits

  -- the slots do not change
  pub slots_past : (i k : ℕ) → i + k ≤ slots_bytes → part i k (replaced at bytes shelf) ≡ part i k shelf
  slots_past i k h = part_before at bytes shelf fits i k (omega (arith, past.beyond))

  pub held_past : (p n : ℕ) → held p n (replaced at bytes shelf) ≡ held p n shelf
  held_past p n =
      held_alike p n (replaced at bytes shelf) shelf (λ e. slots_past (slot_place p n) slot_bytes (slot_in_slots p n e))

-- ---- the places of charges

pub one_or_two : (p : ℕ) → is_publisher p ≡ true → (p ≡ 1) ⊎ (p ≡ 2)
one_or_two p e = ⊎_elim (λ a. inl (eqb-true p 1 a)) (λ b. inr (eqb-true p 2 b)) (one_of (eqb p 1) (eqb p 2) e)

charge_fits : (p : ℕ) → is_publisher p ≡ true → charge_place p + 2 ≤ shelf_bytes
charge_fits p e = ⊎_elim (λ a. omega arith) (λ a. omega arith) (one_or_two p e)

pub partner_too : (p : ℕ) → is_publisher p ≡ true → is_publisher (partner p) ≡ true
partner_too p e =
    ⊎_elim (λ a. ap (λ (q : ℕ). is_publisher (partner q)) a) (λ a. ap (λ (q : ℕ). is_publisher (partner q)) a)
    (one_or_two p e)

pub charge_past : (p v : ℕ) → is_publisher p ≡ true → Past (charge_place p) (digits 256 2 v)
charge_past p v e =
    record { beyond = omega arith; within = omega (arith, charge_fits p e, length_digits 256 2 v) }

pub round_past : Past slots_bytes (replicate 4 0)
round_past = record { beyond = omega arith; within = omega arith }

-- ---- what is charged

pub charged_alike : (p : ℕ) (first second : List ℕ)
    → part (charge_place p) 2 first ≡ part (charge_place p) 2 second → charged p first ≡ charged p second
unfolding charged
charged_alike p first second e = ap (value 256) e

pub charged_empty : (p : ℕ) → is_publisher p ≡ true → charged p empty_shelf ≡ 0
unfolding charged empty_shelf value
charged_empty p e = ap (value 256) (zeros_within (charge_place p) 2 shelf_bytes (charge_fits p e))

module _ (p : ℕ) (e : is_publisher p ≡ true) (shelf : List ℕ) (room : shelf_bytes ≤ length shelf) where
  -- the 2 bytes that were put in place
  abbrev put : ℕ → List ℕ
  put v = replaced (charge_place p) (digits 256 2 v) shelf

  put_fits : (v : ℕ) → charge_place p + length (digits 256 2 v) ≤ length shelf
  put_fits v = omega (arith, (charge_past p v e).within)

  pub charged_put : (v : ℕ) → v < 65536 → charged p (put v) ≡ v
  unfolding charged
  charged_put v h =
      ap (λ (k : ℕ). value 256 (part (charge_place p) k (put v))) (sym (length_digits 256 2 v))
      ∙ ap (value 256) (part_replaced (charge_place p) (digits 256 2 v) shelf (put_fits v))
      ∙ value_digits_below 256 2 v (omega arith) h

  -- the other publisher's charge stays
  pub charged_beside : (q v : ℕ) → is_publisher q ≡ true → (p ≡ q → ⊥) → charged q (put v) ≡ charged q shelf
  charged_beside q v f h =
      charged_alike q (put v) shelf
      (⊎_elim
      (λ a. ⊎_elim (λ b. absurd (h (omega arith)))
      (λ b. part_after (charge_place p) (digits 256 2 v) shelf (put_fits v) (charge_place q) 2
      (omega (arith, length_digits 256 2 v))) (one_or_two q f))
      (λ a. ⊎_elim
      (λ b. part_before (charge_place p) (digits 256 2 v) shelf (put_fits v) (charge_place q) 2 (omega arith))
      (λ b. absurd (h (omega arith))) (one_or_two q f))
      (one_or_two p e))

  -- 2 bytes write a number of at most 65,535
  pub charged_bytes : ((k : ℕ) → get_or shelf k 0 < 256) → charged p shelf < 65536
  unfolding charged
  charged_bytes below =
      let two : length (part (charge_place p) 2 shelf) ≡ 2 =
      length-take-le 2 (drop (charge_place p) shelf)
      (omega (arith, charge_fits p e, length-drop (charge_place p) shelf)) in
      subst (λ (k : ℕ). value 256 (part (charge_place p) 2 shelf) < 256 ^ k) two
      (value_below 256 (part (charge_place p) 2 shelf)
      (take_below 2 (drop (charge_place p) shelf) (drop_below (charge_place p) shelf below)))

  -- after a new round the charge is zero
  pub charged_round : charged p (new_round shelf) ≡ 0
  unfolding charged value
  charged_round =
      ap (value 256)
      (part_inside slots_bytes (replicate 4 0) shelf (omega arith) (2 * (p - 1)) 2 (omega (arith, charge_fits p e))
      ∙ zeros_within (2 * (p - 1)) 2 4 (omega (arith, charge_fits p e)))

-- ---- what admission says

module _ (p n : ℕ) (shelf : List ℕ) where
  pub sum_after : admitted p n shelf ≡ true
      → over_by (charged p shelf + n) + over_by (charged (partner p) shelf) ≤ further
  sum_after a = leb-true (over_by (charged p shelf + n) + over_by (charged (partner p) shelf)) further a

  -- an admitted slip leaves its publisher at 20,000 or under
  pub few_after : admitted p n shelf ≡ true → charged p shelf + n ≤ 20000
  few_after a = omega (arith, sum_after a)

  -- 2 bytes hold the charge after an admitted slip, whatever bytes the shelf had
  pub charged_charging : is_publisher p ≡ true → shelf_bytes ≤ length shelf → admitted p n shelf ≡ true
      → charged p (charging p n shelf) ≡ charged p shelf + n
  charged_charging e room a = charged_put p e shelf room (charged p shelf + n) (omega (arith, few_after a))

  -- A shelf whose amounts over 10,000 sum to more than 10,000 admits no slip. No history makes such a shelf.
  pub none_admitted : further < over_by (charged p shelf) + over_by (charged (partner p) shelf)
      → admitted p n shelf ≡ false
  none_admitted h =
      lt-leb (over_by (charged p shelf + n) + over_by (charged (partner p) shelf)) further (omega arith)
