-- `pair_powers::store` meets its contract: three rows of constants, one after another.
use Rattle.field.specs.Polynomial.{polynomials}
use Rattle.pair_powers.proofs.TableLaws.{stored_three}
use Rattle.pair_powers.proofs.store.Goals as goal

pub returns : goal.returns
returns c =
    let a = c.args in
    stored_three (polynomials a.bits a.modulus) a.bits a.at a.gains c.requires.2
    c.multiples.ensures c.multiples-2.ensures c.multiples-3.ensures
