-- `slip_digest_braid::digest_matrix` meets its contract: for T-values other than zero, the braid without what cancels
-- is the same braid.
use mathlib.Core.Path.{sym, ◌∙◌}
use native.Mathlib.Omega.{arith}
use Rattle.field.proofs.Fields.{binary}
use Rattle.pair.proofs.GoodLaws.{tested_values}
use Rattle.slip_digest_braid.proofs.digest_matrix.Goals as goal

pub returns-then-all_nonzero : goal.returns-then-all_nonzero
returns-then-all_nonzero c =
    let a = c.args in
    c.short_matrix.ensures (binary a.f)
    (tested_values a.f a.t_values.now (omega arith)
    (sym (rw c.bits_of.ensures at c.all_fit.ensures) ∙ c.if-all_fit.true)
    (sym c.all_nonzero.ensures ∙ c.if-all_nonzero.true))
