-- `matrix_columns::times` meets its contract. The loop's invariant: the total is the product by the bits before i, and
-- the rest holds the bits from i on.
use Prim.Native.Nat.{ℕ, ◌+◌}
use mathlib.Core.Path.{◌≡◌, ap, ◌∙◌}
use native.Mathlib.Omega.{arith}
use lib.ListN.{get_or}
use Rattle.matrix_columns.specs.steps.Lanes.{lane, chosen}
use Rattle.matrix_columns.proofs.TimesLaws.{none_multiplied, next_multiplied, fits}
use Rattle.matrix_columns.proofs.times.Goals as goal

pub loop-i-init : goal.loop-i-init
loop-i-init c = none_multiplied _ c.args.column

pub overflow_mul-total : goal.overflow_mul-total
overflow_mul-total c =
    let l = c.loop-i in
    record {
      fits = fits l.rest (get_or c.args.constants.now (c.args.at + l.i) 0)
          (c.requires.0 (c.args.at + l.i));
    }

pub loop-i-preserved : goal.loop-i-preserved
loop-i-preserved c =
    let l = c.loop-i in
    let a = c.args in
    next_multiplied (λ k. get_or a.constants.now (a.at + k) 0) a.column l.i l.total l.rest (omega arith)
    (c.requires.0 (a.at + l.i)) l.invariant

pub returns : goal.returns
returns c =
    let l = c.loop-i in
    let a = c.args in
    let e : l.i ≡ a.bits = omega arith in
    λ j h. l.invariant.total_is j h
    ∙ ap (λ (n : ℕ). chosen (λ k. get_or a.constants.now (a.at + k) 0) n (lane j a.column)) e
