-- `swap_cancel::packing::pack_kept` meets its contract. The loop's invariant: the first codes are the letters of the
-- codes read, and the codes that are not read are unchanged.
use Prim.Native.Nat.{ℕ, ◌+◌}
use mathlib.Core.Path.{refl, ap₂, ◌∙◌}
use mathlib.Core.List.{List, [], ◌∷◌, ◌++◌}
use native.Mathlib.Omega.{arith}
use Rattle.swap_cancel.specs.steps.Marking.{kept}
use Rattle.swap_cancel.proofs.PackingLaws.{next_kept, same_on, same_at}
use Rattle.swap_cancel.proofs.packing.pack_kept.Goals as goal

pub loop-k-init : goal.loop-k-init
unfolding kept
loop-k-init c = (omega arith, refl, refl)

pub loop-k-preserved : goal.loop-k-preserved
loop-k-preserved c =
    let l = c.loop-k in
    let row = c.args.codes.now in
    let s = c.settle-count in
    let same = same_at l.codes row l.k l.invariant.2 in (
      omega (arith, s.ensures.0, l.invariant.0),
      s.ensures.1
          ∙ ap₂ (λ (u : List ℕ) (c : ℕ). u ++ kept (c ∷ [])) l.invariant.1 same
          ∙ next_kept row l.k (omega arith),
      same_on s.new.codes l.codes (l.count + 1) (l.k + 1) (omega (arith, l.invariant.0)) s.ensures.2
          ∙ same_on l.codes row l.k (l.k + 1) (omega arith) l.invariant.2,
    )
