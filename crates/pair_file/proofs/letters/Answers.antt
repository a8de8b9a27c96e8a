-- `pair_file::letters` meets its contract: first the letters of whole groups of eight bytes, then those of the last
-- bytes.
use Prim.Native.Nat.{◌+◌, ◌/◌}
use mathlib.Core.Path.{◌≡◌}
use native.Mathlib.Omega.{arith}
use Rattle.word.proofs.PackedCodes.{codes_last, last_lettered}
use Rattle.pair.proofs.ColumnLaws.{both_carried}
use Rattle.pair_file.proofs.letters.Goals as goal

pub run-requires : goal.run-requires
run-requires c =
    let end : c.div_ceil.result ≡ (c.args.n + 1) / 2 = omega arith in (
      c.words-done.ensures.2.holds,
      last_lettered c.args.part.now c.args.n c.requires.1 c.words-done.result c.words-done.ensures.0 _
          c.unpack.new.codes (rw end at c.unpack.ensures) c.requires.2,
    )

pub returns : goal.returns
returns c =
    let end : c.div_ceil.result ≡ (c.args.n + 1) / 2 = omega arith in
    rw (codes_last c.args.part.now c.args.n c.requires.1 c.words-done.result c.words-done.ensures.0 _
    c.unpack.new.codes (rw end at c.unpack.ensures))
    (both_carried c.words-done.ensures.2 c.run.ensures)
