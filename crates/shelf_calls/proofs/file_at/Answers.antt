-- `shelf_calls::file_at` meets its contract: the slot's first byte says how many of its other bytes are the file.
use Prim.Native.Nat.{ℕ, ◌+◌, ◌-◌, ◌<◌}
use mathlib.Core.Path.{◌≡◌, sym, ap, ◌∙◌}
use mathlib.Core.List.{List}
use native.Mathlib.Omega.{arith}
use lib.ListN.{take, drop, get_or}
use lib.Seq.{get_or-take, get_or-drop}
use Rattle.base.specs.Digits.{part}
use Rattle.shelf.specs.Shelves.{slot_bytes, file_in}
use Rattle.shelf_calls.proofs.file_at.Goals as goal

file_of : (at n : ℕ) (shelf : List ℕ) → n ≡ get_or shelf at 0
    → part 1 n (take (at + slot_bytes - at) (drop at shelf)) ≡ file_in (part at slot_bytes shelf)
unfolding file_in
file_of at n shelf stated =
    let size : at + slot_bytes - at ≡ slot_bytes = omega arith in
    let z : at + 0 ≡ at = omega arith in
    let zero-th : 0 < slot_bytes = omega arith in
    let first : get_or (part at slot_bytes shelf) 0 0 ≡ get_or shelf at 0 =
    get_or-take slot_bytes (drop at shelf) 0 0 zero-th ∙ get_or-drop at shelf 0 0
    ∙ ap (λ (k : ℕ). get_or shelf k 0) z in
    ap (λ (k : ℕ). part 1 n (take k (drop at shelf))) size
    ∙ ap (λ (k : ℕ). part 1 k (part at slot_bytes shelf)) (stated ∙ sym first)

pub returns : goal.returns
returns c =
    c.part.ensures ∙ file_of c.args.at c.from.result c.args.shelf.now c.from.ensures
