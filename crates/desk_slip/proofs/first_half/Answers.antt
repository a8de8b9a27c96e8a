-- `desk_slip::first_half` meets its contract: the first half of what was read, and both buffers are large enough.
use Prim.Native.Nat.{ℕ}
use native.Mathlib.Omega.{arith}
use mathlib.Core.Path.{◌≡◌, refl, subst}
use mathlib.Core.List.{List}
use Rattle.slip_verdict.specs.declared.Half.{Half}
use Rattle.slip_verdict.specs.Halves.{MakesHalf}
use Rattle.desk_slip.proofs.Enough.{enough_of_files}
use Rattle.desk_slip.proofs.first_half.Goals as goal

-- key and digest may be replaced by equal lists
half_of_parts : {key digest k d : List ℕ} {answer : ℕ} {half : Half} → key ≡ k → digest ≡ d
    → MakesHalf key digest answer half
    → MakesHalf k d answer half
half_of_parts {digest = digest} {k = k} {answer = answer} {half = half} e f m =
    subst (λ (y : List ℕ). MakesHalf k y answer half) f (subst (λ (x : List ℕ). MakesHalf x digest answer half) e m)

pub returns : goal.returns
returns c = record {
  first_half_of = record {
    both_read = refl;
    half_is = half_of_parts c.part-key.ensures c.part-digest.ensures c.first_half.ensures;
  };
  enough_of_files = enough_of_files _ _ 5003 (omega arith) (omega arith) (omega arith);
}
