-- `word_store::write_stored` meets its contract: the sizes, the signs and the generators are laid one after another.
use Prim.Native.Nat.{ℕ, ◌-◌, ◌*◌, ◌/◌}
use mathlib.Core.Path.{sym, ap, ◌∙◌}
use mathlib.Core.List.{map}
use native.Mathlib.Nat.{one-mul}
use native.Mathlib.Omega.{arith}
use lib.ListN.{length, take, drop}
use lib.Seq.{length-take-le}
use Rattle.base.specs.Lists.{overlaid}
use Rattle.base.specs.Digits.{value, digits, halves}
use Rattle.word_store.proofs.StoreLaws.{put_whole, signs_laid, stored_laid, stored_size}
use Rattle.word_store.proofs.write_stored.Goals as goal

pub slice_bounds-put-end-3 : goal.slice_bounds-put-end-3
slice_bounds-put-end-3 c =
    let k = c.row_bytes-generators in
    sym (length-take-le k.result c.write_groups-2.new.out
    (omega (arith, k.ensures, c.requires.0.few, c.write_groups-2.auto.out)))

pub returns : goal.returns
returns c =
    let k = c.row_bytes-groups in
    let a = c.args in
    let e = put_whole a.part.now a.n c.requires.0 c.put.new.out c.put.ensures in
    let k2 = c.row_bytes-generators in
    let laid =
    signs_laid a.part.now a.n c.requires.0 c.put.new.out e.0 e.1 k.result k2.result k.ensures
    k2.ensures a.out.now c.requires.1 c.write_sizes.new.out c.write_sizes.ensures
    c.write_groups.new.out
    (c.write_groups.ensures
    ∙ ap (λ (i : ℕ). overlaid (digits 256 i (value 2 (map (λ x. x / 8) (halves (take (4 * k.result) c.put.new.out)))))
    (take (length c.write_sizes.new.out - 6) (drop 6 c.write_sizes.new.out)))
    (one-mul k.result)) in (
      stored_size a.part.now a.n c.requires.0 c.put.new.out e.0 e.1 k.result k2.result
          k.ensures k2.ensures a.out.now c.requires.1,
      stored_laid a.part.now a.n c.requires.0 c.put.new.out e.0 e.1 k.result k2.result
          k.ensures k2.ensures a.out.now c.requires.1 _ laid
          c.write_groups-2.new.out c.put-2.new.out
          c.write_groups-2.ensures c.put-2.ensures,
    )
