-- `pair_powers::powers_of` meets its contract. The loop's invariant: the constants of the first j levels are stored.
use Rattle.field.specs.Polynomial.{polynomials}
use Rattle.pair_powers.specs.steps.Powers.{PowerTable}
use Rattle.pair_powers.proofs.powers_of.Given as goal

abbrev pub invariant-loop-j : goal.invariant-loop-j
invariant-loop-j l = PowerTable (polynomials l.bits l.modulus) l.bits l.constants l.j l.table
