-- `key_writer::rows::pack` meets its contract. The loop's invariant: the first k groups of the output are the digits of
-- the number that the first k groups of the row write, and the rest of the output is unchanged.
use Prim.Native.Nat.{ℕ, ◌+◌, ◌-◌, ◌*◌, ◌/◌, ◌^◌, ◌≤◌, ◌<◌}
use mathlib.Core.Path.{◌≡◌, refl, ap, ap₂, ◌∙◌}
use mathlib.Core.List.{List, ◌++◌}
use native.Mathlib.Nat.{zero-mul, le_trans, lt_of_lt_of_le, le-mul_of_pos_right, mul-lt-mul_of_pos_right}
use native.Mathlib.Omega.{arith}
use borrow.Rule.Slice.PartMut.{same_len_mid}
use lib.ListN.{length, take, drop, length-drop}
use lib.Seq.{length-take-le, take_all}
use Rattle.base.specs.Lists.{overlaid}
use Rattle.base.specs.Digits.{value, digits}
use Rattle.base.specs.Packing.{Below, row_bytes, filler_bits}
use Rattle.base.specs.steps.Regrouping.{Regroups, regrouped}
use Rattle.base.proofs.DigitLaws.{value_below}
use Rattle.base.proofs.PackLaws.{length_part, below_part, group_end, group_next, group_back, last_back}
use Rattle.base.proofs.RowLaws.{last_row, packs, packed_groups}
use Rattle.key_writer.proofs.rows.pack.Goals as goal

module _ (b : ℕ) (row : List ℕ) (narrow : b ≤ 8) (below : Below (2 ^ b) row) where
  -- the bytes of group k lie before the row's end
  within : (k : ℕ) → k < length row / 8 → k * b + b ≤ row_bytes b (length row)
  within k h = omega (arith, group_end k (length row / 8) b h, (last_row b (length row)).0)

  module _ {size unit : ℕ} (s : size ≡ 2 ^ b) (u : unit ≡ 2 ^ filler_bits b (length row)) where
    regroups : Regroups row 8 size (row_bytes b (length row)) b 256 (length row / 8) unit
    regroups = rw (s, u) (packs b (length row) narrow row below refl)

    -- the last numbers, fewer than eight
    abbrev left : List ℕ
    left = take (length row - length row / 8 * 8) (drop (length row / 8 * 8) row)

    left_is : left ≡ drop (length row / 8 * 8) row
    left_is = take_all _ (drop (length row / 8 * 8) row) (omega (arith, length-drop (length row / 8 * 8) row))

    left_below : Below size left
    left_below = below_part size (length row / 8 * 8) (length row - length row / 8 * 8) row regroups.below

    left_size : length left ≡ length row - length row / 8 * 8
    left_size = length-take-le _ (drop (length row / 8 * 8) row) (omega (arith, length-drop (length row / 8 * 8) row))

    left_fits : size ^ length left ≤ 2 ^ 64
    left_fits = rw left_size (le_trans (le-mul_of_pos_right _ regroups.up_positive) regroups.rest)

    scaled_fits : value size left * unit < 2 ^ 64
    scaled_fits =
        lt_of_lt_of_le (mul-lt-mul_of_pos_right (value_below size left left_below) regroups.up_positive)
        (rw left_size regroups.rest)

pub loop-k-init : goal.loop-k-init
unfolding digits overlaid
loop-k-init c = (refl, rw (zero-mul c.args.bits) refl)

pub number-v-requires : goal.number-v-requires
number-v-requires c =
    let a = c.args in
    let k = c.loop-k.k in
    let g = regroups a.bits a.row.now c.requires.0 c.requires.1 c.power-size.ensures refl in
    let e : k * 8 + 8 - k * 8 ≡ 8 = omega arith in (
      below_part c.power-size.result (k * 8) (k * 8 + 8 - k * 8) a.row.now g.below,
      rw (e, length_part (k * 8) 8 a.row.now (omega arith)) g.fits,
    )

pub loop-k-preserved : goal.loop-k-preserved
loop-k-preserved c =
    let a = c.args in
    let l = c.loop-k in
    let size = c.power-size.result in
    let row = a.row.now in
    let g = regroups a.bits row c.requires.0 c.requires.1 c.power-size.ensures refl in
    let room = within a.bits row c.requires.0 c.requires.1 l.k (omega arith) in (
      same_len_mid (l.k * a.bits) (l.k * a.bits + a.bits - l.k * a.bits) l.bytes c.spell.new.dst c.spell.auto.dst
          ∙ l.invariant.0,
      group_back size 8 256 a.bits (l.k * 8) (l.k * a.bits) c.number-v.result row a.bytes.now l.bytes
          c.spell.new.dst g.below (omega arith) (omega (arith, room, l.invariant.0, c.requires.2)) g.as_many
          g.positive l.invariant.1 c.number-v.ensures c.spell.ensures
          ∙ ap₂ (λ (j i : ℕ). overlaid (digits 256 j (value size (take i row))) a.bytes.now)
          (group_next l.k a.bits (l.k * a.bits) refl) (group_next l.k 8 (l.k * 8) refl),
    )

pub number-rest-requires : goal.number-rest-requires
number-rest-requires c =
    let a = c.args in
    let r = c.requires in (
      left_below a.bits a.row.now r.0 r.1 c.power-size.ensures refl,
      left_fits a.bits a.row.now r.0 r.1 c.power-size.ensures refl,
    )

pub overflow_mul-rest : goal.overflow_mul-rest
overflow_mul-rest c =
    let a = c.args in
    let r = c.requires in
    record {
      fits = rw c.number-rest.ensures
          (scaled_fits a.bits a.row.now r.0 r.1 c.power-size.ensures c.filler_values-unit.ensures);
    }

pub slice_bounds-spell-count-2 : goal.slice_bounds-spell-count-2
slice_bounds-spell-count-2 c =
    let a = c.args in
    omega (arith, (last_row a.bits (length a.row.now)).0, c.loop-k.invariant.0, c.requires.2)

pub slice_bounds-spell-start-2 : goal.slice_bounds-spell-start-2
slice_bounds-spell-start-2 c =
    let a = c.args in
    omega (arith, (last_row a.bits (length a.row.now)).0, c.loop-k.invariant.0, c.requires.2)

pub returns : goal.returns
unfolding regrouped
returns c =
    let a = c.args in
    let l = c.loop-k in
    let size = c.power-size.result in
    let row = a.row.now in
    let r = c.requires in
    let n : ℕ = length row in
    let i : ℕ = n / 8 * 8 in
    let j : ℕ = n / 8 * a.bits in
    let k : l.k ≡ n / 8 = omega arith in
    let put = rw k at l.invariant.1 in
    last_back size 256 i j (c.number-rest.result * c.filler_values-unit.result) row a.bytes.now l.bytes
    c.spell-2.new.dst (omega (arith, (last_row a.bits n).0, r.2)) l.invariant.0 put c.spell-2.ensures
    ∙ ap (λ (v : ℕ). digits 256 j (value size (take i row))
    ++ digits 256 (length a.bytes.now - j) (v * c.filler_values-unit.result))
    (c.number-rest.ensures
    ∙ ap (value size) (left_is a.bits row r.0 r.1 c.power-size.ensures c.filler_values-unit.ensures))
    ∙ (λ t. regrouped row 8 (c.power-size.ensures t) (r.2 t) a.bits 256 (n / 8) (c.filler_values-unit.ensures t))
    ∙ packed_groups a.bits n row r.1 refl
