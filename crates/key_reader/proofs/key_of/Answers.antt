-- `key_reader::key_of` meets its contract: it reads each part.
use Prim.Native.Nat.{ℕ}
use mathlib.Core.Path.{ap, ap₂, ◌∙◌}
use mathlib.Core.List.{List}
use Rattle.base.specs.Digits.{part}
use Rattle.base.specs.Packing.{row_bytes}
use Rattle.pair.specs.Action.{pair_of}
use Rattle.key.specs.Keys.{entries, whole_matrix}
use native.Mathlib.Omega.{arith}
use Rattle.key_reader.proofs.key_of.Goals as goal

pub returns : goal.returns
returns c =
    let b = c.args.bits in
    let file = c.args.file.now in
    let whole : ℕ → List ℕ = λ at. whole_matrix (entries b (part at (row_bytes b 57) file)) in
    let first = c.matrix_at-first.ensures ∙ ap whole c.first_place.ensures in
    let second = c.matrix_at-second.ensures ∙ ap whole c.second_place.ensures in
    λ j. record {
      field = c.args.f;
      t_values = c.requires.3 j;
      pair = (c.with.ensures ∙ ap₂ pair_of first c.requires.4) j;
      second = second j;
    }

pub matrix_at-first-requires : goal.matrix_at-first-requires
matrix_at-first-requires c =
    let at = c.first_place.ensures in
    (c.requires.0, c.requires.1, omega (arith, at, c.requires.0), omega (arith, at, c.requires.2))

pub matrix_at-second-requires : goal.matrix_at-second-requires
matrix_at-second-requires c =
    let at = c.second_place.ensures in
    (c.requires.0, c.requires.1, omega (arith, at, c.requires.0), omega (arith, at, c.requires.2))
