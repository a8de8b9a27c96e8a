-- `word_shortener::routes::by_arcs` meets its contract.
use native.Mathlib.Omega.{arith}
use Rattle.word_shortener.proofs.RouteLaws.{arcs_laid, arcs_lettered}
use Rattle.word_shortener.proofs.routes.by_arcs.Goals as goal

pub swap_cancel-requires : goal.swap_cancel-requires
swap_cancel-requires c =
    let s = c.search-m in (
      omega (arith, s.ensures.not_longer, c.requires.0),
      omega (arith, s.ensures.not_longer, s.auto.codes, c.requires.1),
      arcs_lettered s.ensures c.requires.2,
    )

pub returns : goal.returns
returns c =
    arcs_laid c.search-m.ensures c.swap_cancel.ensures c.requires.2
