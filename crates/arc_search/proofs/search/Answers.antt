-- `arc_search::search` meets its contract. The loop's invariant: arcs of the word at the start were laid anew.
use mathlib.Core.Path.{refl, ◌∙◌}
use native.Mathlib.Omega.{arith}
use Rattle.braid_arcs.specs.Arcs.{done}
use Rattle.braid_arcs.proofs.RelayingKeeps.{relays_on}
use Rattle.arc_search.proofs.search.Goals as goal

pub loop-init : goal.loop-init
loop-init c = (omega arith, omega arith, refl, done)

pub loop-preserved : goal.loop-preserved
loop-preserved c =
    let s = c.one_step-count in
    let l = c.loop in (
      omega (arith, s.ensures.not_longer, l.invariant.0),
      omega arith,
      s.auto.codes ∙ l.invariant.2,
      relays_on l.invariant.3 s.ensures.relays,
    )
