-- `desk_number::shown` meets its contract. The loop's invariant: v is the number that the digits so far show, and is
-- below 256 to the power of how many they are.
use Prim.Native.Nat.{ℕ, ◌+◌, ◌-◌, ◌*◌, ◌<◌, ◌^◌}
use mathlib.Core.Path.{◌≡◌, refl, sym, ap, ◌∙◌}
use native.Mathlib.Omega.{arith}
use lib.ListN.{length, take, get_or}
use lib.Seq.{take-length}
use Rattle.base.specs.Digits.{value}
use Rattle.desk_number.specs.Numbers.{shown_number}
use Rattle.desk_number.proofs.NumberLaws.{shown_more, one_more_fits, fits_wide}
use Rattle.desk_number.proofs.shown.Goals as goal

pub loop-b-init : goal.loop-b-init
unfolding shown_number value
loop-b-init c = (refl, omega arith)

pub overflow_mul-v : goal.overflow_mul-v
overflow_mul-v c =
    let l = c.loop-b in
    let small : l.v < 2 ^ 40 = fits_wide l.v l.b-index l.invariant.1 (omega arith) in
    record { fits = omega (arith, small) }

pub overflow_add-v : goal.overflow_add-v
overflow_add-v c =
    let l = c.loop-b in
    let small : l.v < 2 ^ 40 = fits_wide l.v l.b-index l.invariant.1 (omega arith) in
    record { fits = omega (arith, small, c.digit.ensures.1) }

pub loop-b-preserved : goal.loop-b-preserved
loop-b-preserved c =
    let l = c.loop-b in
    let text = c.args.text.now in (
      ap (λ (d : ℕ). l.v * 10 + d) c.digit.ensures.0
          ∙ ap (λ (v : ℕ). v * 10 + (get_or text l.b-index 0 - 48)) l.invariant.0
          ∙ sym (shown_more text l.b-index (omega arith)),
      one_more_fits l.v c.digit.result l.b-index l.invariant.1 c.digit.ensures.1,
    )

pub returns : goal.returns
returns c =
    let l = c.loop-b in
    let text = c.args.text.now in
    let e : l.b-index ≡ length text = omega arith in
    l.invariant.0 ∙ ap (λ (n : ℕ). shown_number (take n text)) e ∙ ap shown_number (take-length text)
