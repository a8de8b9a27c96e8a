-- Laws of packing: the letters among the first k + 1 codes, and codes that do not change.
use Prim.Native.Nat.{ℕ, ◌+◌, ◌-◌, ◌≤◌, ◌<◌}
use mathlib.Core.Path.{◌≡◌, sym, ap, ◌∙◌}
use mathlib.Core.List.{List, [], ◌∷◌, ◌++◌}
use native.Mathlib.Omega.{arith}
use native.Mathlib.Numerals.{add-one}
use lib.ListN.{length, take, drop, get_or}
use lib.Seq.{take-suc, drop-drop, get_or-drop}
use Rattle.swap_cancel.specs.steps.Marking.{kept}
use Rattle.swap_cancel.proofs.KeptLaws.{kept_append}

-- one more code
pub next_kept : (w : List ℕ) (k : ℕ) → k < length w
    → kept (take k w) ++ kept (get_or w k 0 ∷ []) ≡ kept (take (k + 1) w)
next_kept w k h =
    sym (kept_append (take k w) (get_or w k 0 ∷ []))
    ∙ ap kept (sym (take-suc w k 0 h) ∙ ap (λ (m : ℕ). take m w) (sym (add-one k)))

-- two rows that are the same from place a on are the same from any later place on
pub same_on : (v w : List ℕ) (a b : ℕ) → a ≤ b → drop a v ≡ drop a w → drop b v ≡ drop b w
same_on v w a b h e =
    let s : a + (b - a) ≡ b = omega arith in
    ap (λ (j : ℕ). drop j v) (sym s)
    ∙ sym (drop-drop (b - a) a v)
    ∙ ap (drop (b - a)) e
    ∙ drop-drop (b - a) a w
    ∙ ap (λ (j : ℕ). drop j w) s

pub same_at : (v w : List ℕ) (k : ℕ) → drop k v ≡ drop k w → get_or v k 0 ≡ get_or w k 0
same_at v w k e =
    let s : k + 0 ≡ k = omega arith in
    ap (λ (j : ℕ). get_or v j 0) (sym s)
    ∙ sym (get_or-drop k v 0 0)
    ∙ ap (λ (l : List ℕ). get_or l 0 0) e
    ∙ get_or-drop k w 0 0
    ∙ ap (λ (j : ℕ). get_or w j 0) s
