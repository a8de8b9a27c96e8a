-- `base_rows::filler_values` meets its contract.
use Prim.Native.Nat.{ℕ, ◌-◌, ◌*◌, ◌%◌, ◌^◌}
use mathlib.Core.Path.{◌≡◌, ap, ◌∙◌}
use native.Mathlib.Omega.{arith}
use native.Mathlib.Nat.{mul-le-mul_left}
use Rattle.base.specs.Packing.{filler_bits}
use Rattle.base.proofs.RowLaws.{last_row}
use Rattle.base_rows.proofs.filler_values.Goals as goal

pub overflow_mul-last : goal.overflow_mul-last
overflow_mul-last c = omega (arith, mul-le-mul_left (c.args.n % 8) c.requires)

pub next_multiple_of-requires-clause-fits : goal.next_multiple_of-requires-clause-fits
next_multiple_of-requires-clause-fits c = omega (arith, mul-le-mul_left (c.args.n % 8) c.requires)

pub returns : goal.returns
returns c =
    let a = c.args in
    let e : c.next_multiple_of.result - a.n % 8 * a.bits ≡ filler_bits a.bits a.n =
    omega (arith, c.next_multiple_of.ensures.value, (last_row a.bits a.n).1) in
    c.power.ensures ∙ ap (λ (k : ℕ). 2 ^ k) e
