-- `word_replacement::find` meets its contract. The loop's invariant: the pair ends at none of the places before k.
use Prim.Native.Nat.{ℕ, suc, ◌+◌, ◌-◌, ◌≤◌, ◌<◌}
use mathlib.Core.Path.{◌≡◌, ap, ap₂, ◌∙◌}
use mathlib.Core.Bool.{Bool, ◌&&◌}
use mathlib.Core.List.{List}
use native.Mathlib.Omega.{arith}
use borrow.Author.Tests.{eq-eqb, ne_eqb}
use lib.Dec.{eqb}
use lib.ListN.{length, drop, get_or}
use Rattle.word_replacement.specs.steps.Rows.{before}
use Rattle.word_replacement.proofs.EntryLaws.{found_here, found_later}
use Rattle.word_replacement.proofs.find.Goals as goal
use Rattle.word_replacement.proofs.find.Goals.{else-rows-k-via-then-rows-k+else-rows-k-2, else-rows-k-via-else-rows-k}

module _ (c d : ℕ) (l : List ℕ) (k : ℕ) (some : 1 ≤ k) (h : k < length l) where
  back : k - 1 + 1 ≡ k
  back = omega arith

  here : get_or l (k - 1) 0 ≡ c → get_or l k 0 ≡ d → before c d (drop (k - 1) l) ≡ 0
  here e f =
      found_here c d l (k - 1) (omega arith)
      (ap₂ (λ (x y : Bool). x && y) (eq-eqb (get_or l (k - 1) 0) c e)
      (ap (λ (j : ℕ). eqb (get_or l j 0) d) back ∙ eq-eqb (get_or l k 0) d f))

  not_first : (get_or l (k - 1) 0 ≡ c → ⊥) → before c d (drop (k - 1) l) ≡ suc (before c d (drop k l))
  not_first n =
      found_later c d l (k - 1) (omega arith)
      (ap (λ (x : Bool). x && eqb (get_or l (k - 1 + 1) 0) d) (ne_eqb (get_or l (k - 1) 0) c n))
      ∙ ap (λ (j : ℕ). suc (before c d (drop j l))) back

  not_second : get_or l (k - 1) 0 ≡ c → (get_or l k 0 ≡ d → ⊥)
      → before c d (drop (k - 1) l) ≡ suc (before c d (drop k l))
  not_second e n =
      found_later c d l (k - 1) (omega arith)
      (ap₂ (λ (x y : Bool). x && y) (eq-eqb (get_or l (k - 1) 0) c e)
      (ap (λ (j : ℕ). eqb (get_or l j 0) d) back ∙ ne_eqb (get_or l k 0) d n))
      ∙ ap (λ (j : ℕ). suc (before c d (drop j l))) back

pub returns-then-rows-k-2 : goal.returns-then-rows-k-2
returns-then-rows-k-2 c =
    let a = c.args in
    let l = c.loop-k in
    let found = here a.c a.d a.rows.now l.k (omega arith) (omega arith) c.if-rows-k.true c.if-rows-k-2.true in
    (omega (arith, found, l.invariant), omega arith)

pub loop-k-preserved : goal.loop-k-preserved
loop-k-preserved c =
    let a = c.args in
    let l = c.loop-k in
    let next : before a.c a.d (drop (l.k - 1) a.rows.now) ≡ suc (before a.c a.d (drop l.k a.rows.now)) =
    elim c.else-rows-k.branch [
      | else-rows-k-via-then-rows-k+else-rows-k-2 w ↦
          not_second a.c a.d a.rows.now l.k (omega arith) (omega arith) w.if-rows-k.true w.if-rows-k-2.false
      | else-rows-k-via-else-rows-k w ↦
          not_first a.c a.d a.rows.now l.k (omega arith) (omega arith) w.if-rows-k.false
    ] in
    let e : l.k + 1 - 1 ≡ l.k = omega arith in
    rw e (omega (arith, next, l.invariant))
