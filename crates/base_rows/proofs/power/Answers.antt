-- `base_rows::power` meets its contract: the shift loses no bit.
use Prim.Native.Nat.{ℕ, ◌%◌, ◌^◌, ◌≤◌}
use mathlib.Core.Path.{ap, ◌∙◌}
use native.Mathlib.Nat.{one-mul, mod-eq_of_lt}
use native.Mathlib.Omega.{arith}
use lib.Pow.{pow_mono}
use Rattle.base_rows.proofs.power.Goals as goal

pub returns : goal.returns
returns c =
    let n = c.args.n in
    let b : 2 ^ n ≤ 2 ^ 8 = pow_mono c.requires in
    ap (λ (x : ℕ). x % 2 ^ 64) (one-mul (2 ^ n)) ∙ mod-eq_of_lt (omega arith)
