-- `word_crossing::walk::place_of` meets its contract: each label of a list of 0 to 7 is found.
use mathlib.Core.Path.{◌≡◌}
use Rattle.std.proofs.Common.{rules}
use Rattle.word_crossing.proofs.HalfLaws.{place_found}
use Rattle.word_crossing.proofs.walk.place_of.Goals as goal

pub unwrap-requires : goal.unwrap-requires
unwrap-requires c =
    let place = place_found c.args.labels.now c.requires.0 c.requires.1 c.args.a c.requires.2 in
    rw (c.found.ensures, place.1) (search rules)

pub returns : goal.returns
returns c =
    let place = place_found c.args.labels.now c.requires.0 c.requires.1 c.args.a c.requires.2 in
    let same : c.unwrap.result ≡ place.0 = cc (c.unwrap.ensures, c.found.ensures, place.1) in
    rw same (place.3, place.2)
