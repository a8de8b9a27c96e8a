-- `matrix_elimination::corner_alone` meets its contract. The loop's invariant: the last row is zero in the columns
-- before j. The pivot of the last column is then the corner, and no row gains anything.
use Prim.Native.Nat.{ℕ, ◌+◌, ◌<◌}
use mathlib.Core.Path.{◌≡◌, sym, ap, ◌∙◌}
use mathlib.Core.Bool.{true, not, false≢true}
use mathlib.Core.List.{List}
use native.Mathlib.Omega.{arith}
use native.Mathlib.Decide.{ℕ_discrete}
use lib.Dec.{eqb}
use lib.ListN.{get_or}
use Rattle.field.proofs.Fields.{binary}
use Rattle.matrix.specs.Layout.{entry}
use Rattle.matrix.proofs.SweepLaws.{clear_alone}
use Rattle.matrix_elimination.proofs.corner_alone.Goals as goal

pub loop-j-init : goal.loop-j-init
loop-j-init c k h = absurd (omega arith)

pub returns-then-m-place-ne0 : goal.returns-then-m-place-ne0
returns-then-m-place-ne0 c e = absurd (false≢true e)

next_zero : (m : List ℕ) (j : ℕ) → entry m 7 j ≡ 0 → ((c : ℕ) → c < j → entry m 7 c ≡ 0)
    → (c : ℕ) → c < j + 1 → entry m 7 c ≡ 0
next_zero m j z zeros c h = at (ℕ_discrete c j)
  where
    at : Dec (c ≡ j) → entry m 7 c ≡ 0
    at (yes e) = ap (entry m 7) e ∙ z
    at (no d) = zeros c (omega arith)

pub loop-j-preserved : goal.loop-j-preserved
unfolding entry
loop-j-preserved c =
    let l = c.loop-j in
    let a = c.args in
    let there = ap (λ (k : ℕ). get_or a.m.now k 0) c.place.ensures.0 in
    next_zero a.m.now l.j (sym there ∙ c.if-m-place-ne0.false) l.invariant

not_zero : (x : ℕ) → not (eqb x 0) ≡ true → x ≡ 0 → ⊥
not_zero x e z = false≢true (sym (ap (λ (y : ℕ). not (eqb y 0)) z) ∙ e)

pub returns : goal.returns
unfolding entry
returns c e =
    let m = c.args.m.now in
    let all : c.loop-j.j ≡ 7 = omega arith in
    let there = ap (λ (k : ℕ). get_or m k 0) c.place-2.ensures.0 in
    clear_alone (binary c.args.f) 7 (entry m) (λ z. not_zero _ e (there ∙ z)) (rw all at c.loop-j.invariant)
