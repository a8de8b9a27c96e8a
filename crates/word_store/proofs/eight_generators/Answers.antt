-- `word_store::eight_generators` meets its contract: the numbers of two codes each, put together.
use mathlib.Core.Path.{sym, ap, ◌∙◌}
use mathlib.Core.List.{List, map}
use native.Mathlib.Omega.{arith}
use Prim.Native.Nat.{ℕ, ◌+◌, ◌%◌}
use lib.ListN.{get_or}
use Rattle.base.specs.Digits.{value, halves}
use Rattle.word_store.proofs.GroupLaws.{four_bytes, four_generators}
use Rattle.word_store.proofs.eight_generators.Goals as goal

pub returns : goal.returns
returns c =
    let bytes = c.args.bytes.now in
    let at = c.args.at in
    let a = c.two_generators-a.ensures in
    let b = c.two_generators-b.ensures in
    let d = c.two_generators-c.ensures in
    let e = c.two_generators-d.ensures in (
      four_generators (get_or bytes at 0) (get_or bytes (at + 1) 0) (get_or bytes (at + 2) 0)
          (get_or bytes (at + 3) 0) _ _ _ _
          a.0 b.0 d.0 e.0
          ∙ ap (λ (l : List ℕ). value 8 (map (λ k. k % 8) (halves l))) (sym (four_bytes bytes at c.requires)),
      omega (arith, a.1, b.1, d.1, e.1),
    )
