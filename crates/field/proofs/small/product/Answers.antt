-- `field::small::product` meets its contract: it reads the table at the five low bits of each factor.
use Prim.Native.Nat.{ℕ, ◌+◌, ◌*◌, ◌%◌}
use mathlib.Core.Path.{sym, ap, ◌∙◌}
use mathlib.Core.List.{List}
use native.Mathlib.Omega.{arith}
use lib.ListN.{get_or}
use Rattle.field.proofs.TableLaws.{product_at, mul_low}
use Rattle.field.proofs.small.product.Goals as goal

pub returns : goal.returns
returns c =
    let a = c.args in
    rw (c.from-i.ensures, c.from-j.ensures)
    (ap (λ (t : List ℕ). get_or t (32 * (a.a % 32) + a.b % 32) 0) c.table-products.ensures
    ∙ product_at (a.a % 32) (a.b % 32) (omega arith) (omega arith)
    ∙ sym (mul_low a.a a.b))
