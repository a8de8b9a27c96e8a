-- No call of one publisher changes a byte of the other's four slots, whatever bytes the shelf has.
use Prim.Native.Nat.{ℕ, ◌+◌, ◌*◌, ◌≤◌}
use mathlib.Core.Path.{◌≡◌, refl}
use mathlib.Core.Bool.{true}
use mathlib.Core.List.{List}
use mathlib.Core.Logic.{◌⊎◌, inl, inr, ⊎_elim}
use native.Mathlib.Omega.{arith}
use lib.ListN.{length}
use Rattle.base.specs.Digits.{part}
use Rattle.shelf.specs.Shelves.{slot_bytes, slots_bytes, shelf_bytes, has_slot, slot_place}
use Rattle.shelf.specs.Calls.{Work, after}
use Rattle.shelf.proofs.SlotLaws.{Known, known, beside_holding}
use Rattle.shelf.proofs.ChargeLaws.{slots_past}
use Rattle.shelf_histories.proofs.HeldAfter.{after_keeps}

-- the four slots of a publisher
abbrev pub publisher_part : ℕ → List ℕ → List ℕ
publisher_part p shelf = part (slot_place p 0) (4 * slot_bytes) shelf

-- a slot of one publisher lies beside the other's part
beside : (p n q : ℕ) → Known p n → Known q 0 → (p ≡ q → ⊥)
    → (slot_place q 0 + 4 * slot_bytes ≤ slot_place p n) ⊎ (slot_place p n + slot_bytes ≤ slot_place q 0)
beside p n q k l h =
    ⊎_elim
    (λ a. ⊎_elim (λ b. absurd (h (omega arith))) (λ b. inr (omega arith)) l.one_or_two)
    (λ a. ⊎_elim (λ b. inl (omega arith)) (λ b. absurd (h (omega arith))) l.one_or_two)
    k.one_or_two

in_slots : {q : ℕ} → Known q 0 → slot_place q 0 + 4 * slot_bytes ≤ slots_bytes
in_slots k = ⊎_elim (λ a. omega arith) (λ a. omega arith) k.one_or_two

pub others_bytes : (p : ℕ) (work : Work) (q : ℕ) → has_slot q 0 ≡ true → (p ≡ q → ⊥) → (shelf : List ℕ)
    → shelf_bytes ≤ length shelf → publisher_part q (after p work shelf) ≡ publisher_part q shelf
others_bytes p work q e h shelf room =
    after_keeps (λ (s : List ℕ). publisher_part q s ≡ publisher_part q shelf) p work shelf refl
    (λ n file put.
    beside_holding p n put.has file put.fits shelf room (slot_place q 0) (4 * slot_bytes)
    (beside p n q (known p n put.has) (known q 0 e) h))
    (λ at bytes past. slots_past at bytes past shelf room (slot_place q 0) (4 * slot_bytes) (in_slots (known q 0 e)))
