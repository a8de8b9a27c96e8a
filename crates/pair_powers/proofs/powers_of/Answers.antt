-- `pair_powers::powers_of` meets its contract. The loop's invariant: the constants of the first j levels are stored.
use mathlib.Core.Path.{◌≡◌, refl}
use native.Mathlib.Omega.{arith}
use lib.ListN.{replicate}
use Rattle.field.specs.Polynomial.{polynomials}
use Rattle.matrix_columns.proofs.ConstantLaws.{zero_bytes}
use Rattle.pair_powers.proofs.TableLaws.{none_table, more_table}
use Rattle.pair_powers.proofs.powers_of.Goals as goal

pub loop-j-init : goal.loop-j-init
loop-j-init c =
    let a = c.args in
    none_table (polynomials a.bits a.modulus) a.bits a.constants.now (replicate 384 0) refl (zero_bytes 384)

pub loop-j-preserved : goal.loop-j-preserved
loop-j-preserved c =
    let l = c.loop-j in
    more_table l.j c.requires.1 l.invariant c.level_powers.ensures

pub returns : goal.returns
returns c =
    let l = c.loop-j in
    let e : l.j ≡ 4 = omega arith in
    rw e at l.invariant
