-- `word_reader::next_place` meets its contract: the code makes the test that the definition makes.
use Rattle.word_reader.proofs.CodeLaws.{place_on, place_stays}
use Rattle.word_reader.proofs.next_place.Goals as goal

pub returns-then-at-n : goal.returns-then-at-n
returns-then-at-n c =
    let a = c.args in
    place_on a.file.now a.at c.count-n.ensures.0 c.if-at-n.true

pub returns-else-at-n : goal.returns-else-at-n
returns-else-at-n c =
    let a = c.args in
    place_stays a.file.now a.at c.count-n.ensures.0 c.if-at-n.false
