-- `base_rows::row_bytes` meets its contract.
use Prim.Native.Nat.{ℕ, ◌*◌, ◌/◌, ◌%◌, ◌≤◌}
use native.Mathlib.Omega.{arith}
use native.Mathlib.Nat.{mul-le-mul_left}
use Rattle.base.proofs.RowLaws.{last_row}
use Rattle.base_rows.proofs.row_bytes.Goals as goal

few : (n bits : ℕ) → bits ≤ 8 → (n / 8 * bits ≤ n / 8 * 8) × (n % 8 * bits ≤ n % 8 * 8)
few n bits h = (mul-le-mul_left (n / 8) h, mul-le-mul_left (n % 8) h)

pub overflow_mul-result : goal.overflow_mul-result
overflow_mul-result c = omega (arith, few c.args.n c.args.bits c.requires)

pub overflow_mul-n : goal.overflow_mul-n
overflow_mul-n c = omega (arith, few c.args.n c.args.bits c.requires)

pub overflow_add-result : goal.overflow_add-result
overflow_add-result c = omega (arith, few c.args.n c.args.bits c.requires, c.div_ceil.ensures)

pub returns : goal.returns
returns c = omega (arith, (last_row c.args.bits c.args.n).0, c.div_ceil.ensures)
