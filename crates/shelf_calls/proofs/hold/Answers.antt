-- `shelf_calls::hold` meets its contract: the local slot is that of the file, and it replaces the bytes at the place.
use Prim.Native.Nat.{ℕ, ◌+◌, ◌≤◌}
use mathlib.Core.Path.{◌≡◌, sym, ap, ◌∙◌}
use mathlib.Core.List.{List, [], ◌∷◌, ◌++◌, append-nil}
use native.Mathlib.Omega.{arith}
use lib.ListN.{length, take, replicate}
use lib.Seq.{take_all}
use Rattle.base.specs.Lists.{overlaid}
use Rattle.shelf.specs.Shelves.{file_room, slot_bytes, slot_with, replaced}
use Rattle.shelf.proofs.SlotLaws.{length_slot}
use Rattle.shelf_calls.proofs.hold.Goals as goal

-- zeros, with the file's length and the file at their front
made : (file z : List ℕ) → length file ≤ file_room → z ≡ overlaid (take file_room file) (replicate file_room 0)
    → length file ∷ (z ++ []) ≡ slot_with file
unfolding slot_with
made file z h e =
    ap (λ (l : List ℕ). length file ∷ l)
    (append-nil z ∙ e ∙ ap (λ (l : List ℕ). overlaid l (replicate file_room 0)) (take_all file_room file h))

slot_room : (at : ℕ) (slot shelf file : List ℕ) → slot ≡ slot_with file → length file ≤ file_room
    → at + slot_bytes ≤ length shelf → at + length slot ≤ length shelf
slot_room at slot shelf file e f h = omega (arith, ap length e, length_slot file f)

pub slice_bounds-replace-end : goal.slice_bounds-replace-end
slice_bounds-replace-end c =
    let file = c.args.file.now in
    sym (ap length (made file c.put.new.out c.requires.1 c.put.ensures) ∙ length_slot file c.requires.1)

pub replace-requires : goal.replace-requires
replace-requires c =
    let file = c.args.file.now in
    slot_room c.args.at _ c.args.shelf.now file (made file c.put.new.out c.requires.1 c.put.ensures) c.requires.1
    c.requires.0

pub returns : goal.returns
returns c =
    let a = c.args in
    c.replace.ensures
    ∙ ap (λ (s : List ℕ). replaced a.at s a.shelf.now) (made a.file.now c.put.new.out c.requires.1 c.put.ensures)
