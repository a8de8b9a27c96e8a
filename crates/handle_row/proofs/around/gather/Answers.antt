-- `handle_row::around::gather` meets its contract: the codes before the gap come first, then the codes after it.
use Prim.Native.Nat.{ℕ, ◌+◌, ◌-◌}
use mathlib.Core.Path.{◌≡◌, sym, ap, ap₂, ◌∙◌}
use mathlib.Core.List.{List, ◌++◌, append_assoc}
use native.Mathlib.Omega.{arith}
use lib.ListN.{length, take, drop, length-append, length-drop}
use lib.Seq.{length-take-le, take_all, take_at}
use Rattle.handle_row.proofs.around.gather.Goals as goal

-- two parts, one laid behind the other
both : (one two rest over : List ℕ) (n m : ℕ) → length one ≡ n → length two ≡ m
    → take (n + m) (take n (one ++ rest) ++ (two ++ over)) ≡ one ++ two
both one two rest over n m e f =
    ap (λ (w : List ℕ). take (n + m) (w ++ (two ++ over))) (take_at one rest n e)
    ∙ ap (take (n + m)) (sym (append_assoc one two over))
    ∙ take_at (one ++ two) over (n + m) (omega (arith, length-append one two))

pub returns : goal.returns
returns c =
    let row = c.args.row.now in
    let at = c.args.right in
    let one = c.copy_from_slice.ensures.after in
    let rest = take_all (length row - at) (drop at row) (omega (arith, length-drop at row)) in
    let two = c.copy_from_slice-2.ensures.after ∙ rest in
    both _ _ _ _ c.args.left (length row - at)
    (ap length one ∙ length-take-le c.args.left row c.requires.front)
    (ap length two ∙ length-drop at row)
    ∙ ap₂ (λ (u v : List ℕ). u ++ v) one two
