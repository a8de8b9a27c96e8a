-- `pair_file::words` meets its contract. The loop's invariant: the letters of the groups so far are multiplied in.
use Prim.Native.Nat.{◌+◌, ◌*◌, ◌/◌}
use mathlib.Core.Path.{◌≡◌, sym, ap, ◌∙◌}
use native.Mathlib.Omega.{arith}
use lib.ListN.{length}
use Rattle.base.specs.Lists.{every}
use Rattle.base.specs.Digits.{halves}
use Rattle.base.proofs.DigitLaws.{halves_more}
use Rattle.word.specs.Letters.{is_letter}
use Rattle.word.proofs.SixteenCodes.{length_sixteen}
use Rattle.word.proofs.PackedCodes.{word_lettered}
use Rattle.pair.proofs.ColumnLaws.{none_carried, both_carried}
use Rattle.pair_file.proofs.words.Goals as goal

pub loop-group-init : goal.loop-group-init
unfolding halves
loop-group-init c =
    let a = c.args in
    none_carried a.bits a.constants.now a.columns.now a.labels.now c.requires.0

pub slice_bounds-run-end : goal.slice_bounds-run-end
slice_bounds-run-end c =
    let l = c.loop-group in
    sym (ap length c.sixteen_at-codes.ensures ∙ length_sixteen c.args.part.now (8 * l.group) (omega arith))

pub run-requires : goal.run-requires
run-requires c =
    let l = c.loop-group in (
      l.invariant.holds,
      ap (every is_letter) c.sixteen_at-codes.ensures
          ∙ word_lettered c.args.part.now c.args.n c.requires.1 c.requires.2 (8 * l.group) (omega arith),
    )

pub loop-group-preserved : goal.loop-group-preserved
loop-group-preserved c =
    let l = c.loop-group in
    let bytes = c.args.part.now in
    let next : 8 * (l.group + 1) ≡ 8 * l.group + 8 = omega arith in
    rw (next, halves_more (8 * l.group) 8 bytes)
    (both_carried l.invariant (rw c.sixteen_at-codes.ensures at c.run.ensures))

pub returns : goal.returns
returns c =
    let l = c.loop-group in
    let all : l.group ≡ c.args.n / 16 = omega arith in
    (omega arith, omega arith, rw all at l.invariant)
