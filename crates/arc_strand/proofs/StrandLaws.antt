-- Laws of one letter and the strand: the strand's own letters.
use Prim.Native.Nat.{ℕ, zero, suc, ◌+◌, ◌-◌, ◌≤◌, ◌<◌}
use mathlib.Core.Path.{◌≡◌}
use mathlib.Core.Bool.{Bool}
use mathlib.Core.List.{[], ◌∷◌}
use native.Mathlib.Omega.{arith}
use native.Mathlib.Numerals.{add-one}
use Rattle.braid_arcs.specs.Arcs.{rightward, leftward, Arc, none, right, left}

pub own_right : (under : Bool) (x c : ℕ) → x < 7 → c ≡ rightward under x → Arc under x (c ∷ []) (x + 1) []
own_right under x c h e = rw (e, add-one x) (right h (none {x = suc x} (omega arith)))

pub own_left : (under : Bool) (x c : ℕ) → 0 < x → x ≤ 7 → c ≡ leftward under (x - 1) → Arc under x (c ∷ []) (x - 1) []
own_left under zero c z h e = absurd (omega arith)
own_left under (suc x) c z h e =
    let one : suc x - 1 ≡ x = omega arith in
    rw (e, one) (left {x = x} (omega arith) (none {x = x} (omega arith)))
