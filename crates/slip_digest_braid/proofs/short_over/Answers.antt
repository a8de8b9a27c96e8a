-- `slip_digest_braid::short_over` meets its contract: the loop begins with the starting pair's columns and with every
-- label at its own place.
use Rattle.base.specs.Lists.{values_from}
use Rattle.slip_digest_braid.proofs.ShortBraid.{short_is}
use Rattle.slip_digest_braid.proofs.short_over.Goals as goal

pub returns : goal.returns
unfolding values_from
returns c =
    let a = c.args in
    rw c.matrix_of.ensures
    (short_is c.requires.degree a.t_values.now a.digest.now c.constants_by_place-constants.result
    c.powers_of-powers.result c.columns_of-columns.result c.half_bytes.new.columns
    c.start-begin.result c.start-begin.ensures c.columns_of-columns.ensures.1
    c.constants_by_place-constants.ensures c.powers_of-powers.ensures c.half_bytes.ensures)
