-- `matrix_elimination::both_eliminated` meets its contract: each matrix is invertible exactly if its last column has a
-- pivot and the 7 by 7 matrix that is left of it is invertible.
use mathlib.Core.Path.{sym, ap, ap₂, ◌∙◌}
use mathlib.Core.Bool.{Bool, ◌&&◌}
use Rattle.base.proofs.ListLaws.{and_false}
use Rattle.field.specs.Fields.{operations}
use Rattle.matrix.specs.Layout.{entry}
use Rattle.matrix.specs.Elimination.{invertible}
use Rattle.matrix_elimination.proofs.both_eliminated.Goals as goal

pub returns-then-not-clear_last : goal.returns-then-not-clear_last
returns-then-not-clear_last c =
    let a = c.args in
    sym
    (ap (λ (x : Bool). x && invertible (operations a.f) 8 (entry a.second))
    (rw c.if-not-clear_last.true at c.clear_last.ensures.1))

pub returns-then-not-clear_last-2 : goal.returns-then-not-clear_last-2
returns-then-not-clear_last-2 c =
    let a = c.args in
    let first = invertible (operations a.f) 8 (entry a.first) in
    sym
    (ap (λ (x : Bool). first && x)
    (rw c.if-not-clear_last-2.true at c.clear_last-2.ensures.1)
    ∙ and_false first)

pub returns : goal.returns
returns c =
    c.both_cleared.ensures
    ∙ sym
    (ap₂ (λ (x y : Bool). x && y)
    (rw c.if-not-clear_last.false at c.clear_last.ensures.1)
    (rw c.if-not-clear_last-2.false at c.clear_last-2.ensures.1))
