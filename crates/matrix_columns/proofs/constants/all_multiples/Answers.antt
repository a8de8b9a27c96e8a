-- `matrix_columns::constants::all_multiples` meets its contract. The loop's invariant: the constants of the first a
-- numbers are stored.
use mathlib.Core.Path.{◌≡◌}
use native.Mathlib.Omega.{arith}
use Rattle.field.specs.Polynomial.{polynomials}
use Rattle.matrix_columns.proofs.ConstantLaws.{none_row, next_row}
use Rattle.matrix_columns.proofs.constants.all_multiples.Goals as goal

pub loop-a-init : goal.loop-a-init
loop-a-init c =
    let a = c.args in
    none_row (polynomials a.bits a.modulus) a.bits a.numbers.now a.from a.list.now c.requires.0 c.requires.1

pub multiples-requires : goal.multiples-requires
multiples-requires c =
    let filled = c.loop-a.invariant in
    let pre = c.requires in
    (omega (arith, filled.size), filled.bytes, pre.3, pre.4)

pub loop-a-preserved : goal.loop-a-preserved
loop-a-preserved c =
    let l = c.loop-a in
    let a = c.args in
    next_row (polynomials a.bits a.modulus) a.bits a.numbers.now a.from a.list.now l.a l.list c.multiples.new.list
    c.requires.3 (omega arith) l.invariant c.multiples.ensures

pub returns : goal.returns
returns c =
    let l = c.loop-a in
    let e : l.a ≡ 8 = omega arith in
    rw e at l.invariant
