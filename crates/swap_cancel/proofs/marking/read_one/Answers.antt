-- `swap_cancel::marking::read_one` meets its contract.
use native.Mathlib.Omega.{arith}
use lib.ListN.{get_or}
use Rattle.word.specs.Letters.{generator}
use Rattle.word.proofs.LetterLaws.{generator_below}
use Rattle.swap_cancel.proofs.marking.read_one.Goals as goal

pub partner-with-requires : goal.partner-with-requires
partner-with-requires c =
    let a = c.args in
    let s = c.requires.0 in
    let letter = s.fresh a.k (omega arith) c.requires.1 in
    let own = get_or a.codes.now a.k 0 in
    let last = (s.latest (generator own) (generator_below own letter)).read in
    (s.ten, omega arith)
