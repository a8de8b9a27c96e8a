-- `pair_powers::level_powers` meets its contract. The loop's invariant: the constants of the first k powers are stored,
-- and `gains` has the numbers of the k-th power.
use Rattle.field.specs.Polynomial.{polynomials}
use Rattle.pair_powers.specs.steps.Powers.{LevelFilled}
use Rattle.pair_powers.proofs.TableLaws.{Numbers}
use Rattle.pair_powers.proofs.level_powers.Given as goal

abbrev pub invariant-loop-k : goal.invariant-loop-k
invariant-loop-k l =
    LevelFilled (polynomials l.bits l.modulus) l.bits l.constants l.j l.k l.initial.table l.table
    × Numbers (polynomials l.bits l.modulus) l.bits l.constants l.j l.k l.gains
