-- `desk_number::writes` meets its contract: the number in decimal, without the byte after it, is compared.
use Prim.Native.Nat.{ℕ, ◌-◌, ◌≤◌, ◌<◌}
use mathlib.Core.Path.{◌≡◌, sym, ap, ◌∙◌}
use native.Mathlib.Omega.{arith}
use lib.ListN.{length}
use lib.Seq.{length-take-le}
use Rattle.base.specs.Lists.{equal}
use Rattle.text.specs.Decimal.{decimal}
use Rattle.desk_number.proofs.NumberLaws.{number_short, end_is, front_is}
use Rattle.desk_number.proofs.writes.Goals as goal

-- a number of 16 bits, as the code reads it
module _ {m n : ℕ} (e : m ≡ n) (h : n < 65536) where
  small : m < 65536
  small = omega arith

pub decimal-end-requires : goal.decimal-end-requires
decimal-end-requires c = omega (arith, number_short c.from.result (small c.from.ensures c.ranges.number.fits))

pub slice_bounds-text-count : goal.slice_bounds-text-count
slice_bounds-text-count c =
    omega (arith, end_is c.from.result (small c.from.ensures c.ranges.number.fits) c.decimal-end.ensures)

pub slice_bounds-text-end : goal.slice_bounds-text-end
slice_bounds-text-end c =
    let h = small c.from.ensures c.ranges.number.fits in
    omega (arith, end_is c.from.result h c.decimal-end.ensures, number_short c.from.result h)

pub slice_bounds-equal-length : goal.slice_bounds-equal-length
slice_bounds-equal-length c =
    let h = small c.from.ensures c.ranges.number.fits in
    let within : c.decimal-end.result - 1 ≤ length c.decimal-end.new.text =
    omega (arith, end_is c.from.result h c.decimal-end.ensures, number_short c.from.result h) in
    sym (length-take-le _ _ within)

pub returns : goal.returns
returns c =
    let h = small c.from.ensures c.ranges.number.fits in
    c.equal.ensures
    ∙ ap (equal c.args.argument.now) (front_is c.from.result h c.decimal-end.ensures ∙ ap decimal c.from.ensures)
