-- Each publisher's number holds the key of its last accepted load, if it was not cleared since, and otherwise none. The
-- last accepted load is read off the publisher's own calls and their answers.
use Prim.Native.Nat.{ℕ, ◌≤◌}
use mathlib.Core.Path.{◌≡◌, ap, ◌∙◌}
use mathlib.Core.Bool.{Bool, true, false, cond}
use mathlib.Core.List.{List, [], ◌∷◌}
use native.Mathlib.Omega.{arith}
use lib.Dec.{eqb}
use lib.ListN.{length}
use Rattle.shelf.specs.Shelves.{shelf_bytes, held}
use Rattle.shelf.specs.Calls.{answer_to, acts}
use Rattle.shelf.proofs.SlotLaws.{length_empty, held_empty}
use Rattle.shelf_histories.specs.Histories.{Call, shelf_after, seen, file_after, last_load}
use Rattle.shelf_histories.proofs.HeldAfter.{length_after, held_after}

-- every history leaves a whole shelf
length_history : (h : List Call) → length (shelf_after h) ≡ shelf_bytes
unfolding shelf_after
length_history [] = length_empty
length_history (c ∷ h) =
    let l = length_history h in
    length_after c.publisher c.work (shelf_after h) (omega arith) ∙ l

pub room : (h : List Call) → shelf_bytes ≤ length (shelf_after h)
room h = omega (arith, length_history h)

pub holds_last_load : (p n : ℕ) (h : List Call) → held p n (shelf_after h) ≡ last_load n (seen p h)
unfolding shelf_after seen last_load
holds_last_load p n [] = held_empty p n
holds_last_load p n (c ∷ h) =
    held_after c.publisher c.work (shelf_after h) (room h) p n
    ∙ go (eqb c.publisher p) (answer_to c.publisher c.work (shelf_after h)) (holds_last_load p n h)
  where
    go : (b : Bool) (answer : ℕ) {file : List ℕ} → file ≡ last_load n (seen p h)
        → cond b (cond (acts c.work answer) (file_after n c.work file) file) file
        ≡ last_load n (cond b (record { work = c.work; answer = answer } ∷ seen p h) (seen p h))
    go true answer e = ap (λ (file : List ℕ). cond (acts c.work answer) (file_after n c.work file) file) e
    go false answer e = e
