-- What the search for a slot finds. Only a private contract cites this definition.
use Rattle.std.specs.Prelude.{ℕ, ◌+◌, ◌≡◌, ◌≤◌, true, false, Option, Some, None}
use Rattle.shelf.specs.Shelves.{slot_bytes, shelf_bytes, has_slot, slot_place}

-- the place of the slot of publisher p and key number n, which lies in the shelf, or none if there is no such slot
abbrev pub SlotFound : ℕ → ℕ → Option ℕ → Type 0
SlotFound p n (Some at) = (has_slot p n ≡ true) × (at ≡ slot_place p n) × (at + slot_bytes ≤ shelf_bytes)
SlotFound p n None = has_slot p n ≡ false
