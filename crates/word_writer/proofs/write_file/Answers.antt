-- `word_writer::write_file` meets its contract: it writes the number of letters, the codes two to a byte, and the last
-- code of an odd word in a byte of its own.
use Prim.Native.Nat.{◌-◌}
use mathlib.Core.Path.{◌≡◌, refl, ◌∙◌}
use native.Mathlib.Omega.{arith}
use lib.ListN.{length, drop, length-take, length-drop}
use Rattle.base.specs.Lists.{overlaid}
use Rattle.word.specs.Words.{word_file}
use Rattle.word.proofs.WordLaws.{letters_below}
use Rattle.word.proofs.WriteLaws.{numbered, length_numbered, length_paired, even_written, odd_written}
use Rattle.word_writer.proofs.write_file.Goals as goal
use Rattle.word_writer.proofs.write_file.Goals.{then-n-eq1, else-n-eq1}

pub pack-requires : goal.pack-requires
pack-requires c =
    let two = c.copy_from_slice.new.self in
    let is = c.copy_from_slice.ensures.after ∙ c.to_be_bytes.ensures in
    let file = numbered c.args.codes.now c.args.out.now two is in
    let l = length_numbered c.args.codes.now c.args.out.now two is (omega arith) in
    (c.requires.1, omega (arith, l, length-take (length file - 2) (drop 2 file), length-drop 2 file))

pub overflow_mul-out : goal.overflow_mul-out
overflow_mul-out c =
    omega (arith, letters_below c.args.codes.now c.requires.1 (length c.args.codes.now - 1))

pub bounds-out-n : goal.bounds-out-n
bounds-out-n c =
    let p = c.pack in
    omega (
      arith,
      length_paired c.args.codes.now c.args.out.now c.copy_from_slice.new.self
          (c.copy_from_slice.ensures.after ∙ c.to_be_bytes.ensures) c.requires.0 c.requires.2 p.new.out p.ensures,
    )

pub returns : goal.returns
returns c =
    let codes = c.args.codes.now in
    let out = c.args.out.now in
    let p = c.pack in
    let two = c.copy_from_slice.new.self in
    let is = c.copy_from_slice.ensures.after ∙ c.to_be_bytes.ensures in
    let h = c.requires in
    let written : c.if-n-eq1.out ≡ overlaid (word_file codes) out =
    elim c.if-n-eq1.branch [
      | then-n-eq1 w ↦ w.out-is ∙ odd_written codes out two is h.0 h.2 p.new.out p.ensures w.if-n-eq1.true
      | else-n-eq1 w ↦ w.out-is ∙ even_written codes out two is h.0 h.2 p.new.out p.ensures w.if-n-eq1.false
    ]
    in
    (refl, written)
