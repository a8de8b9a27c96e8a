-- `move_kinds::shift::insert_two` meets its contract.
use mathlib.Core.Path.{ap, ◌∙◌}
use Prim.Native.Nat.{ℕ, ◌+◌}
use mathlib.Core.List.{List}
use lib.ListN.{take, set}
use Rattle.move_kinds.proofs.CodeRows.{inserted}
use Rattle.move_kinds.proofs.shift.insert_two.Goals as goal

pub returns : goal.returns
returns c =
    let a = c.args in
    ap (λ (r : List ℕ). take (a.n + 2) (set (set r a.place a.c) (a.place + 1) a.d)) c.copy_within.ensures.after
    ∙ inserted a.codes.now a.n a.place a.c a.d c.requires.0 c.requires.1
