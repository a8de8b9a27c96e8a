-- `word_restore::unpack` meets its contract: the codes of all groups of eight letters begin with the codes of the file.
use Prim.Native.Nat.{ℕ}
use mathlib.Core.Path.{ap, ◌∙◌}
use mathlib.Core.List.{List}
use lib.ListN.{length, take, replicate}
use Rattle.base.specs.Lists.{overlaid}
use Rattle.word_restore.specs.steps.Restoring.{group_codes}
use Rattle.word_restore.proofs.RestoreLaws.{sign_cut, generator_cut, codes_taken}
use Rattle.word_restore.proofs.unpack.Goals as goal

pub returns : goal.returns
returns c =
    let k = c.row_bytes-groups in
    let file = c.args.file.now in
    let n = c.args.n in
    let cut = generator_cut file n c.requires.0 k.result k.ensures in
    codes_taken file n c.requires.0 k.result k.ensures c.put.new.out
    (c.put.ensures
    ∙ ap (λ (l : List ℕ). overlaid (take (length (replicate {A = ℕ} 3750 0)) l) (replicate 3750 0)) cut)
    c.args.codes.now c.code_groups.new.codes
    (c.code_groups.ensures
    ∙ ap (λ (l : List ℕ). overlaid (group_codes l c.put.new.out k.result) c.args.codes.now)
    (sign_cut file n c.requires.0 k.result k.ensures))
