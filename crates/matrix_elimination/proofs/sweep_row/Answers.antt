-- `matrix_elimination::sweep_row` meets its contract. The loop's invariant: the row's columns before j have gained the
-- products that the table gives for the logarithms.
use Prim.Native.Nat.{ℕ}
use mathlib.Core.Path.{◌≡◌, ap, ◌∙◌}
use native.Mathlib.Omega.{arith}
use lib.ListN.{get_or}
use Rattle.field.specs.Fields.{operations}
use Rattle.field_logarithms.proofs.PowerLaws.{sum_within, sum_product}
use Rattle.matrix.specs.Layout.{entry}
use Rattle.matrix.specs.steps.Sweeping.{gain}
use Rattle.matrix.proofs.SweepLaws.{row_start, row_next, row_same}
use Rattle.matrix_elimination.proofs.sweep_row.Goals as goal

pub loop-j-init : goal.loop-j-init
loop-j-init c =
    row_start (operations c.args.f) _ c.args.i c.args.m.now c.requires.0

pub product_of-requires : goal.product_of-requires
product_of-requires c =
    (c.requires.1, sum_within c.requires.1 c.logarithm-k.ensures (c.requires.2 c.loop-j.j (omega arith)))

pub loop-j-preserved : goal.loop-j-preserved
unfolding entry
loop-j-preserved c =
    let l = c.loop-j in
    let a = c.args in
    rw (c.product_of.ensures, c.place-in-loop-j.ensures.0)
    (row_next (operations a.f) _ a.i a.m.now l.j l.m (omega arith) (omega arith) l.invariant)

pub returns : goal.returns
unfolding entry
returns c =
    let l = c.loop-j in
    let a = c.args in
    let e : l.j ≡ a.n = omega arith in
    let F = operations a.f in
    let m = a.m.now in
    row_same F _ a.i m (gain F a.q a.n m a.i) a.n l.m
    (λ x h.
    sum_product c.requires.1 c.logarithm-k.ensures (c.requires.2 x h)
    ∙ ap (λ (z : ℕ). F.mul z (entry m a.n x))
    (c.times-factor.ensures ∙ ap (λ (i : ℕ). F.mul a.q (get_or m i 0)) c.place.ensures.0))
    (rw e at l.invariant)
