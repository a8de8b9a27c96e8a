-- `matrix_columns::constants::multiples` meets its contract. The loop's invariant: the first i constants are stored.
use mathlib.Core.Path.{◌≡◌}
use native.Mathlib.Omega.{arith}
use lib.Pow.{pow_pos}
use Rattle.matrix_columns.proofs.ConstantLaws.{size_is, none_filled, next_filled}
use Rattle.matrix_columns.proofs.constants.multiples.Goals as goal

pub nonzero_rem-product : goal.nonzero_rem-product
nonzero_rem-product c =
    omega (
      arith,
      size_is c.args.bits c.requires.2,
      pow_pos c.args.bits,
    )

pub loop-i-init : goal.loop-i-init
loop-i-init c =
    let a = c.args in
    let pre = c.requires in
    rw (c.from.ensures, size_is a.bits pre.2) (none_filled pre.3 pre.2 a.number a.at a.list.now pre.1)

pub times_x-product-requires : goal.times_x-product-requires
times_x-product-requires c =
    let pre = c.requires in (pre.3, pre.2, c.loop-i.invariant.below)

pub loop-i-preserved : goal.loop-i-preserved
loop-i-preserved c =
    let l = c.loop-i in
    let a = c.args in
    let pre = c.requires in
    rw c.times_x-product.ensures.0
    (next_filled pre.3 pre.2 a.number a.at l.i a.list.now l.list l.product pre.0 (omega arith) l.invariant)

pub returns : goal.returns
returns c =
    let l = c.loop-i in
    let e : l.i ≡ c.args.bits = omega arith in
    rw e at l.invariant.filled

pub shape_of-list : goal.shape_of-list
shape_of-list c = c.loop-i.invariant.filled.size
