-- `swap_cancel::marking::mark_all` meets its contract. The loop's invariant: the letters that are not marked are what
-- swapping and cancelling leaves of the codes read, the other codes are unchanged, and the rows have the latest
-- letters.
use Prim.Native.Nat.{ℕ, ◌+◌}
use mathlib.Core.Path.{◌≡◌, refl, ap₂, ◌∙◌}
use mathlib.Core.List.{List, [], ◌∷◌}
use native.Mathlib.Omega.{arith}
use borrow.Author.Tests.{eqb-true}
use lib.Dec.{eqb}
use lib.ListN.{get_or, replicate}
use Rattle.base.specs.Lists.{every}
use Rattle.base.proofs.ListLaws.{every_all}
use Rattle.swap_cancel.specs.SwapCancel.{letter_behind, letters_behind}
use Rattle.swap_cancel.specs.steps.Marking.{kept}
use Rattle.swap_cancel.proofs.SwapCancelLaws.{swapped_next}
use Rattle.swap_cancel.proofs.PackingLaws.{same_on, same_at}
use Rattle.swap_cancel.proofs.MarkingLaws.{none_marked}
use Rattle.swap_cancel.proofs.marking.mark_all.Goals as goal

abbrev ten_zeros : List ℕ
ten_zeros = 0 ∷ 0 ∷ 0 ∷ 0 ∷ 0 ∷ 0 ∷ 0 ∷ 0 ∷ 0 ∷ 0 ∷ []

zeros : (j : ℕ) → get_or ten_zeros j 0 ≡ 0
unfolding every
zeros j = eqb-true (get_or ten_zeros j 0) 0 (every_all (λ (x : ℕ). eqb x 0) refl ten_zeros refl j)

pub loop-k-init : goal.loop-k-init
unfolding kept letters_behind
loop-k-init c =
    let a = c.args in (
      none_marked a.n a.codes.now (replicate 10000 0) ten_zeros c.requires.0 c.requires.1 c.requires.0 refl zeros
          c.requires.2,
      refl,
      refl,
      refl,
    )

pub loop-k-preserved : goal.loop-k-preserved
loop-k-preserved c =
    let r = c.read_one in
    let l = c.loop-k in
    let row = c.args.codes.now in
    let same = same_at l.codes row l.k l.invariant.3 in (
      r.ensures.0,
      r.auto.before ∙ l.invariant.1,
      r.ensures.1.0 ∙ ap₂ letter_behind l.invariant.2 same ∙ swapped_next row l.k (omega arith),
      r.ensures.1.1 ∙ same_on l.codes row l.k (l.k + 1) (omega arith) l.invariant.3,
    )
