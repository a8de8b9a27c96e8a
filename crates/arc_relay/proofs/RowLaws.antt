-- Laws of rows of codes: the first codes of a part are replaced by others.
use Prim.Native.Nat.{ℕ, ◌+◌, ◌-◌, ◌≤◌}
use mathlib.Core.Path.{◌≡◌, refl, ap, ap₂, ◌∙◌}
use mathlib.Core.List.{List, ◌++◌}
use native.Mathlib.Omega.{arith}
use lib.ListN.{length, take, drop, length-append, length-drop}
use lib.Seq.{take-add, take_at, take_all, drop-drop, paste, take-paste}
use Rattle.std.proofs.lemmas.Slice.{drop-append-drop}
use Rattle.base.specs.Digits.{part}

-- The first `old` codes of a row are replaced by new ones, as the code does it: p is the row with the new codes in
-- front, and in `now` the codes after the old ones have moved up.
pub replaced : (row new p now : List ℕ) (old : ℕ) → length new ≤ old → old ≤ length row
    → p ≡ new ++ drop (length new) row
    → now ≡ paste p (length new) (drop old p) (length p - old)
    → take (length row - (old - length new)) now ≡ new ++ drop old row
replaced row new p now old few room e moved =
    let m = length new in
    let long : length p ≡ length row =
    omega (arith, ap length e, length-append new (drop m row), length-drop m row) in
    let size : length row - (old - m) ≡ m + (length p - old) = omega arith in
    let rest = length-drop old p in
    ap₂ take size moved
    ∙ take-paste p m (drop old p) (length p - old) (omega arith) (omega arith)
    ∙ ap₂ (λ (u v : List ℕ). u ++ v) (ap (take m) e ∙ take_at new (drop m row) m refl)
    (take_all (length p - old) (drop old p) (omega arith)
    ∙ ap (drop old) e
    ∙ drop-append-drop m row new old few refl)

-- a part of a row of n codes, cut in two
pub split_part : (row : List ℕ) (b e n : ℕ) → b ≤ e → e ≤ n → n ≤ length row
    → take (n - b) (drop b row) ≡ part b (e - b) row ++ part e (n - e) row
split_part row b e n h k l =
    let sum : n - b ≡ e - b + (n - e) = omega arith in
    let at : b + (e - b) ≡ e = omega arith in
    rw (sum, take-add (e - b) (n - e) (drop b row), drop-drop (e - b) b row, at)
