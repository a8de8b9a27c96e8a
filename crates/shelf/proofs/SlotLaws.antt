-- Laws of slots. Every slot lies within a shelf, and two slots do not overlap. A number that was given a file holds it,
-- and every other number holds what it held.
use Prim.Native.Nat.{ℕ, ◌+◌, ◌-◌, ◌*◌, ◌≤◌, ◌<◌}
use mathlib.Core.Path.{◌≡◌, refl, sym, ap, ◌∙◌}
use mathlib.Core.Bool.{Bool, true, false, cond, ◌||◌}
use mathlib.Core.List.{List, [], ◌++◌}
use mathlib.Core.Logic.{◌⊎◌, inl, inr, ⊎_elim}
use native.Mathlib.Omega.{arith}
use borrow.Author.Tests.{eqb-true, leb-true, ltb-true, ltb-false}
use lib.Dec.{eqb, leb, ltb}
use lib.ListN.{length, take, replicate, length-replicate, replicate-append-replicate}
use lib.Seq.{take_at, drop_at}
use Rattle.base.specs.Lists.{overlaid}
use Rattle.base.specs.Digits.{part}
use Rattle.base.proofs.ListLaws.{and_left, and_right, length_overlaid, take_overlaid}
use Rattle.shelf.specs.Shelves.{file_room, slot_bytes, slots_bytes, shelf_bytes, empty_shelf, is_publisher, has_slot}
use Rattle.shelf.specs.Shelves.{slot_place, slot_with, file_in, held, holding}
use Rattle.shelf.proofs.ReplacedLaws.{length_replaced, part_replaced, part_before, part_after}

-- ---- places

pub one_of : (a b : Bool) → a || b ≡ true → (a ≡ true) ⊎ (b ≡ true)
one_of true b e = inl refl
one_of false b e = inr e

pub record Known (publisher number : ℕ) : Type 0 where
  pub one_or_two : (publisher ≡ 1) ⊎ (publisher ≡ 2)
  pub to_three : number ≤ 3

pub known : (p n : ℕ) → has_slot p n ≡ true → Known p n
known p n e =
    record {
      one_or_two = ⊎_elim (λ a. inl (eqb-true p 1 a)) (λ b. inr (eqb-true p 2 b))
          (one_of (eqb p 1) (eqb p 2) (and_left (is_publisher p) (leb n 3) e));
      to_three = leb-true n 3 (and_right (is_publisher p) (leb n 3) e);
    }

abbrev slot : ℕ → ℕ → ℕ
slot p n = 4 * (p - 1) + n

slot_below : (p n : ℕ) → Known p n → slot p n < 8
slot_below p n k = ⊎_elim (λ a. omega arith) (λ a. omega arith) k.one_or_two

-- a slot lies among the slots, so within a shelf
pub slot_in_slots : (p n : ℕ) → has_slot p n ≡ true → slot_place p n + slot_bytes ≤ slots_bytes
slot_in_slots p n e = let b = slot_below p n (known p n e) in omega arith

pub slot_fits : (p n : ℕ) → has_slot p n ≡ true → slot_place p n + slot_bytes ≤ shelf_bytes
slot_fits p n e = omega (arith, slot_in_slots p n e)

-- different numbers have different slots
same_slot : (p n q m : ℕ) → Known p n → Known q m → slot p n ≡ slot q m → (p ≡ q) × (n ≡ m)
same_slot p n q m k l e =
    ⊎_elim
    (λ a. ⊎_elim (λ b. (omega arith, omega arith)) (λ b. (omega arith, omega arith)) l.one_or_two)
    (λ a. ⊎_elim (λ b. (omega arith, omega arith)) (λ b. (omega arith, omega arith)) l.one_or_two)
    k.one_or_two

apart : (a b : ℕ) → (a ≡ b → ⊥) → (a < b) ⊎ (b < a)
apart a b h = go (ltb a b) refl
  where
    go : (t : Bool) → ltb a b ≡ t → (a < b) ⊎ (b < a)
    go true e = inl (ltb-true a b e)
    go false e = inr (omega (arith, ltb-false a b e))

-- two slots do not overlap
slots_apart : (p n q m : ℕ) → has_slot p n ≡ true → has_slot q m ≡ true → ((p ≡ q) × (n ≡ m) → ⊥)
    → (slot_place p n + slot_bytes ≤ slot_place q m) ⊎ (slot_place q m + slot_bytes ≤ slot_place p n)
slots_apart p n q m e d h =
    ⊎_elim (λ l. inl (omega arith)) (λ l. inr (omega arith))
    (apart (slot p n) (slot q m) (λ s. h (same_slot p n q m (known p n e) (known q m d) s)))

-- ---- what a slot holds

pub length_slot : (file : List ℕ) → length file ≤ file_room → length (slot_with file) ≡ slot_bytes
unfolding slot_with
length_slot file h =
    let l = length_overlaid file (replicate file_room 0) (omega arith) in omega arith

file_in_slot : (file : List ℕ) → file_in (slot_with file) ≡ file
unfolding slot_with file_in
file_in_slot file = take_overlaid file (replicate file_room 0)

-- a number that exists holds the file in its slot; a number that does not exist holds none
pub held_in : (p n : ℕ) (shelf : List ℕ) → has_slot p n ≡ true
    → held p n shelf ≡ file_in (part (slot_place p n) slot_bytes shelf)
unfolding held
held_in p n shelf e = ap (λ (b : Bool). cond b (file_in (part (slot_place p n) slot_bytes shelf)) []) e

pub held_none : (p n : ℕ) (shelf : List ℕ) → has_slot p n ≡ false → held p n shelf ≡ []
unfolding held
held_none p n shelf e = ap (λ (b : Bool). cond b (file_in (part (slot_place p n) slot_bytes shelf)) []) e

-- two shelves with the same bytes in a slot hold the same file there
pub held_alike : (p n : ℕ) (first second : List ℕ)
    → (has_slot p n ≡ true → part (slot_place p n) slot_bytes first ≡ part (slot_place p n) slot_bytes second)
    → held p n first ≡ held p n second
held_alike p n first second h = go (has_slot p n) refl
  where
    go : (b : Bool) → has_slot p n ≡ b → held p n first ≡ held p n second
    go true e = held_in p n first e ∙ ap file_in (h e) ∙ sym (held_in p n second e)
    go false e = held_none p n first e ∙ sym (held_none p n second e)

-- ---- a number is given a file

module _ (p n : ℕ) (e : has_slot p n ≡ true) (file : List ℕ) (few : length file ≤ file_room) (shelf : List ℕ)
    (room : shelf_bytes ≤ length shelf) where
  fits : slot_place p n + length (slot_with file) ≤ length shelf
  fits = omega (arith, slot_fits p n e, length_slot file few)

  pub length_holding : length (holding p n file shelf) ≡ length shelf
  length_holding = length_replaced (slot_place p n) (slot_with file) shelf fits

  pub slot_holding : part (slot_place p n) slot_bytes (holding p n file shelf) ≡ slot_with file
  slot_holding =
      ap (λ (k : ℕ). part (slot_place p n) k (holding p n file shelf)) (sym (length_slot file few))
      ∙ part_replaced (slot_place p n) (slot_with file) shelf fits

  -- bytes beside the slot do not change
  pub beside_holding : (i k : ℕ) → (i + k ≤ slot_place p n) ⊎ (slot_place p n + slot_bytes ≤ i)
      → part i k (holding p n file shelf) ≡ part i k shelf
  beside_holding i k (inl l) = part_before (slot_place p n) (slot_with file) shelf fits i k l
  beside_holding i k (inr r) =
      part_after (slot_place p n) (slot_with file) shelf fits i k (omega (arith, length_slot file few))

  -- the number holds the file
  pub held_there : held p n (holding p n file shelf) ≡ file
  held_there = held_in p n (holding p n file shelf) e ∙ ap file_in slot_holding ∙ file_in_slot file

  -- every other number's slot is as it was
  pub slot_elsewhere : (q m : ℕ) → has_slot q m ≡ true → ((p ≡ q) × (n ≡ m) → ⊥)
      → part (slot_place q m) slot_bytes (holding p n file shelf) ≡ part (slot_place q m) slot_bytes shelf
  slot_elsewhere q m d h =
      beside_holding (slot_place q m) slot_bytes (⊎_elim (λ l. inr l) (λ r. inl r) (slots_apart p n q m e d h))

  pub held_elsewhere : (q m : ℕ) → ((p ≡ q) × (n ≡ m) → ⊥) → held q m (holding p n file shelf) ≡ held q m shelf
  held_elsewhere q m h = held_alike q m (holding p n file shelf) shelf (λ d. slot_elsewhere q m d h)

-- ---- the empty shelf

pub length_empty : length empty_shelf ≡ shelf_bytes
unfolding empty_shelf
length_empty = refl

-- a part of zeros
zeros_part : (i n k : ℕ) → part i n (replicate (i + (n + k)) 0) ≡ replicate n 0
zeros_part i n k =
    ap (part i n)
    (sym (replicate-append-replicate i (n + k) 0)
    ∙ ap (λ (l : List ℕ). replicate i 0 ++ l) (sym (replicate-append-replicate n k 0)))
    ∙ ap (take n) (drop_at (replicate i 0) (replicate n 0 ++ replicate k 0) i (length-replicate i 0))
    ∙ take_at (replicate n 0) (replicate k 0) n (length-replicate n 0)

pub zeros_within : (i n m : ℕ) → i + n ≤ m → part i n (replicate m 0) ≡ replicate n 0
zeros_within i n m h =
    let e : m ≡ i + (n + (m - (i + n))) = omega arith in
    ap (λ (k : ℕ). part i n (replicate k 0)) e ∙ zeros_part i n (m - (i + n))

-- the slot of the empty file is all zeros
slot_zeros : slot_with [] ≡ replicate slot_bytes 0
unfolding slot_with overlaid
slot_zeros = refl

-- every slot of the empty shelf is that of the empty file
pub slot_empty : (p n : ℕ) → has_slot p n ≡ true → part (slot_place p n) slot_bytes empty_shelf ≡ slot_with []
unfolding empty_shelf
slot_empty p n e = zeros_within (slot_place p n) slot_bytes shelf_bytes (slot_fits p n e) ∙ sym slot_zeros

pub held_empty : (p n : ℕ) → held p n empty_shelf ≡ []
held_empty p n = go (has_slot p n) refl
  where
    go : (b : Bool) → has_slot p n ≡ b → held p n empty_shelf ≡ []
    go true e = held_in p n empty_shelf e ∙ ap file_in (slot_empty p n e) ∙ file_in_slot []
    go false e = held_none p n empty_shelf e
