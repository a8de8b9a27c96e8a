-- `word_store::write_sizes` meets its contract: two bytes for each size, the high byte first.
use Prim.Native.Nat.{ℕ}
use mathlib.Core.Path.{ap, ◌∙◌}
use mathlib.Core.List.{List, ◌++◌}
use lib.ListN.{drop}
use Rattle.word_store.proofs.StoreLaws.{sizes_written}
use Rattle.word_store.proofs.write_sizes.Goals as goal

pub returns : goal.returns
returns c =
    let a = c.args in
    ap (λ (l : List ℕ). l ++ drop 6 a.out.now) c.copy_from_slice.ensures.after
    ∙ sizes_written a.letters a.signs a.generators c.to_be_bytes.result c.to_be_bytes-2.result c.to_be_bytes-3.result
    a.out.now c.to_be_bytes.ensures c.to_be_bytes-2.ensures c.to_be_bytes-3.ensures
