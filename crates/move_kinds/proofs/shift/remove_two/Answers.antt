-- `move_kinds::shift::remove_two` meets its contract: the part from the place to the word's end moves two places to the
-- front.
use Prim.Native.Nat.{ℕ, ◌-◌}
use mathlib.Core.Path.{ap, ◌∙◌}
use mathlib.Core.List.{List, ◌++◌}
use lib.ListN.{take, drop}
use Rattle.move_kinds.proofs.CodeRows.{removed}
use Rattle.move_kinds.proofs.shift.remove_two.Goals as goal

pub returns : goal.returns
returns c =
    let row = c.args.codes.now in
    let n = c.args.n in
    let at = c.args.place in
    let rest = drop (n - at) (drop at row) in
    ap (λ (r : List ℕ). take (n - 2) (take at row ++ (r ++ rest))) c.move_up.ensures
    ∙ removed row rest n at c.requires.0 c.requires.1
