-- `word_restore::is_filled` meets its contract: both rows are cut from the file, and the filler of each is zero.
use Prim.Native.Nat.{ℕ}
use mathlib.Core.Path.{ap, ap₂, ◌∙◌}
use mathlib.Core.Bool.{Bool, ◌&&◌}
use mathlib.Core.List.{List}
use lib.Dec.{eqb}
use Rattle.base.specs.Packing.{row_filler}
use Rattle.word_restore.proofs.RestoreLaws.{sign_cut, generator_cut}
use Rattle.word_restore.proofs.is_filled.Goals as goal

pub returns : goal.returns
returns c =
    let k = c.row_bytes-at in
    let n = c.args.n in
    let file = c.args.file.now in
    ap₂ (λ (x y : Bool). x && y)
    (c.filler_is_zero-signs.ensures
    ∙ ap (λ (l : List ℕ). eqb (row_filler 1 n l) 0) (sign_cut file n c.requires k.result k.ensures))
    (c.filler_is_zero-generators.ensures
    ∙ ap (λ (l : List ℕ). eqb (row_filler 3 n l) 0) (generator_cut file n c.requires k.result k.ensures))
