-- `field::steps::times_x` meets its contract: it is one exclusive or with the polynomial if the degree is reached, and
-- with 0 otherwise.
use Prim.Native.Nat.{suc, ◌*◌, ◌/◌, ◌^◌, ◌≤◌}
use mathlib.Core.Path.{sym}
use native.Mathlib.Omega.{arith}
use lib.Pow.{pow_mono}
use Rattle.field.proofs.Laws.{top_below, step_below}
use Rattle.field.proofs.StepLaws.{digit_below, step_by}
use Rattle.field.proofs.steps.times_x.Goals as goal

pub overflow_mul-doubled : goal.overflow_mul-doubled
overflow_mul-doubled c = let b : 2 ^ c.args.bits ≤ 2 ^ 8 = pow_mono c.requires.1 in omega arith

pub overflow_mul-result : goal.overflow_mul-result
overflow_mul-result c =
    let n = c.args.bits in
    let b : 2 ^ n ≤ 2 ^ 8 = pow_mono c.requires.1 in
    omega (
      arith,
      digit_below (c.args.a * 2 / 2 ^ n) c.args.modulus (2 ^ suc n)
          (top_below c.requires.0 (c.args.a * 2) (omega arith)) c.requires.0.to,
    )

pub returns : goal.returns
returns c =
    let d = c.requires.0 in
    let a = c.args.a in
    let h = c.requires.2 in
    (sym (step_by d a h), rw (sym (step_by d a h)) (step_below d a h))
