-- `matrix_product::dot` meets its contract. The loop's invariant: the total is the sum of the first k products.
use Prim.Native.Nat.{ℕ, ◌+◌}
use mathlib.Core.Path.{◌≡◌, refl, sym, ap, ap₂, ◌∙◌}
use native.Mathlib.Omega.{arith}
use lib.ListN.{get_or}
use Rattle.field.specs.Fields.{operations}
use Rattle.matrix.specs.Layout.{entry}
use Rattle.matrix.specs.Product.{sum}
use Rattle.matrix.proofs.SumLaws.{sum_next}
use Rattle.matrix_product.proofs.dot.Goals as goal
use Rattle.matrix_product.proofs.dot.Invariants.{terms}

pub loop-k-init : goal.loop-k-init
unfolding sum
loop-k-init c = refl

pub product_of-total-requires : goal.product_of-total-requires
product_of-total-requires c =
    let l = c.loop-k in
    let pre = c.requires in
    (pre.0, omega (arith, pre.1 c.place.result c.place.ensures.1, pre.2 l.k (omega arith)))

pub loop-k-preserved : goal.loop-k-preserved
unfolding entry
loop-k-preserved c =
    let l = c.loop-k in
    let a = c.args in
    ap₂ (operations a.f).add l.invariant
    (c.product_of-total.ensures
    ∙ ap (λ (i : ℕ). get_or a.table.now (256 + (get_or a.a.now i 0 + get_or a.b.now l.k 0)) 0)
    c.place.ensures.0)
    ∙ sym (sum_next (operations a.f) (terms a.table.now a.a.now a.b.now a.row) l.k)

pub returns : goal.returns
returns c =
    let l = c.loop-k in
    let a = c.args in
    let e : l.k ≡ 8 = omega arith in
    l.invariant ∙ ap (sum (operations a.f) (terms a.table.now a.a.now a.b.now a.row)) e
