-- `arc_search::search` meets its contract. The loop's invariant: arcs of the word at the start were laid anew.
use Prim.Native.Nat.{◌≤◌, ◌<◌}
use mathlib.Core.Path.{◌≡◌}
use lib.ListN.{length, take}
use Rattle.braid_arcs.specs.Arcs.{Relays}
use Rattle.arc_search.proofs.search.Given as goal

abbrev pub invariant-loop : goal.invariant-loop
invariant-loop l =
    (l.count ≤ l.n)
    × (l.drawn < 2147483647)
    × (length l.codes ≡ length l.initial.codes)
    × Relays (take l.n l.initial.codes) (take l.count l.codes)
