-- `matrix_elimination::both_cleared` meets its contract. The loop's invariant: each 7 by 7 matrix is invertible exactly
-- if the n by n matrix that is left of it is invertible.
use Prim.Native.Nat.{ℕ, ◌+◌, ◌-◌, ◌<◌}
use mathlib.Core.Path.{◌≡◌, sym, ap, ap₂, ◌∙◌}
use mathlib.Core.Bool.{Bool, ◌&&◌}
use mathlib.Core.List.{List}
use native.Mathlib.Omega.{arith}
use Rattle.base.proofs.ListLaws.{and_false}
use Rattle.field.specs.declared.Field.{Field}
use Rattle.matrix.specs.Elimination.{invertible}
use Rattle.matrix_elimination.proofs.both_cleared.Goals as goal
use Rattle.matrix_elimination.proofs.both_cleared.Invariants.{has_inverse}

-- writes the size n as n - 1 + 1
less : (f : Field) (n : ℕ) (a : List ℕ) → 0 < n → has_inverse f n a ≡ has_inverse f (n - 1 + 1) a
less f n a pos = let size : n ≡ n - 1 + 1 = omega arith in ap (λ (k : ℕ). has_inverse f k a) size

pub clear-requires : goal.clear-requires
clear-requires c = (c.loop-n.invariant.0, c.requires.0, c.requires.1, omega arith)

pub returns-then-not-clear : goal.returns-then-not-clear
returns-then-not-clear c =
    let a = c.args in
    let l = c.loop-n in
    sym
    (ap (λ (x : Bool). x && has_inverse a.f 7 a.second)
    (l.invariant.2 ∙ less a.f l.n l.a (omega arith) ∙ (rw c.if-not-clear.true at c.clear.ensures.1)))

pub clear-requires-in-loop-n : goal.clear-requires-in-loop-n
clear-requires-in-loop-n c = (c.loop-n.invariant.1, c.requires.0, c.requires.1, omega arith)

pub returns-then-not-clear-2 : goal.returns-then-not-clear-2
returns-then-not-clear-2 c =
    let a = c.args in
    let l = c.loop-n in
    sym
    (ap (λ (x : Bool). has_inverse a.f 7 a.first && x)
    (l.invariant.3 ∙ less a.f l.n l.b (omega arith) ∙ (rw c.if-not-clear-2.true at c.clear-in-loop-n.ensures.1))
    ∙ and_false (has_inverse a.f 7 a.first))

pub loop-n-preserved : goal.loop-n-preserved
loop-n-preserved c =
    let f = c.args.f in
    let l = c.loop-n in (
      c.clear.ensures.0,
      c.clear-in-loop-n.ensures.0,
      l.invariant.2 ∙ less f l.n l.a (omega arith) ∙ (rw c.if-not-clear.false at c.clear.ensures.1),
      l.invariant.3 ∙ less f l.n l.b (omega arith) ∙ (rw c.if-not-clear-2.false at c.clear-in-loop-n.ensures.1),
    )

pub returns : goal.returns
unfolding invertible
returns c =
    let f = c.args.f in
    let l = c.loop-n in
    let z : l.n ≡ 0 = omega arith in
    sym
    (ap₂ (λ (x y : Bool). x && y) (l.invariant.2 ∙ ap (λ (k : ℕ). has_inverse f k l.a) z)
    (l.invariant.3 ∙ ap (λ (k : ℕ). has_inverse f k l.b) z))
