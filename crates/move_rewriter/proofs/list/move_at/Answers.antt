-- `move_rewriter::list::move_at` meets its contract: it reads the place and the kind of move k.
use Prim.Native.Nat.{ℕ, ◌+◌, ◌*◌}
use mathlib.Core.Path.{sym, ap₂}
use lib.ListN.{take, get_or}
use Rattle.move_kinds.specs.Kinds.{move}
use Rattle.move_kinds.specs.Rewriting.{step_at, move_of}
use Rattle.move_kinds.proofs.CodeKinds.{makes_as}
use Rattle.move_rewriter.proofs.list.move_at.Goals as goal

pub returns : goal.returns
returns c =
    let a = c.args in
    let m = a.moves.now in
    makes_as (move_of (step_at m a.k)) a.codes.now a.n
    (move (get_or m (2 + 2 * c.two_bytes-count.result + a.k) 0) c.two_bytes-place.result)
    (ap₂ (λ (j p : ℕ). move (get_or m (2 + 2 * j + a.k) 0) p (take a.n a.codes.now))
    (sym c.two_bytes-count.ensures.0)
    (sym c.two_bytes-place.ensures.0))
    c.one_move.ensures
