-- `shelf_charges::partner` meets its contract: 3 less 1 or 2 is the other.
use mathlib.Core.Path.{refl}
use mathlib.Core.Logic.{⊎_elim}
use native.Mathlib.Omega.{arith}
use Rattle.shelf.proofs.ChargeLaws.{one_or_two, partner_too}
use Rattle.shelf_charges.proofs.partner.Goals as goal

pub overflow_sub-result : goal.overflow_sub-result
overflow_sub-result c = ⊎_elim (λ a. omega arith) (λ b. omega arith) (one_or_two c.args.publisher c.requires)

pub returns : goal.returns
returns c = (refl, partner_too c.args.publisher c.requires)
