-- `move_rewriter::list::all_moves` meets its contract. The loop's invariant: the moves from k on give, on the word at
-- this point, what all moves give on the word handed in.
use Prim.Native.Nat.{◌-◌, ◌≤◌}
use mathlib.Core.Path.{◌≡◌}
use lib.ListN.{take}
use Rattle.move_kinds.specs.Rewriting.{move_count, steps}
use Rattle.move_kinds.specs.steps.Leaving.{moved}
use Rattle.move_kinds.proofs.CodeList.{steps_from}
use Rattle.move_rewriter.proofs.list.all_moves.Given as goal

abbrev pub invariant-loop-k : goal.invariant-loop-k
invariant-loop-k l =
    (moved (steps_from l.moves l.k (l.count - l.k)) (take l.letters l.codes)
    ≡ moved (steps l.moves) (take l.n l.initial.codes))
    × (l.count ≡ move_count l.moves)
    × (l.letters ≤ 10000)
