-- `slip_verdict::half_of` meets its contract: what the key holds, and the target.
use Rattle.slip_verdict.proofs.VerdictLaws.{target_is}
use Rattle.slip_verdict.proofs.half_of.Goals as goal

pub returns : goal.returns
returns c =
    let a = c.args in
    let key = a.held in
    let t =
    target_is key a.digest.now c.digest_matrix-first.result c.matrix_product.result c.digest_matrix-first.ensures
    c.matrix_product.ensures in
    λ j. record { field = key.field; t_values = key.t_values; pair = key.pair; target = t j }
