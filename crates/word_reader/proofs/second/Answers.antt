-- `word_reader::second` meets its contract: a reader that is opened and moved on once reads the second letter.
use Rattle.word_reader.proofs.ReadsAll.{letter_second}
use Rattle.word_reader.proofs.second.Goals as goal

pub returns : goal.returns
returns c = letter_second c.args.file.now c.open.ensures c.moved_on.ensures c.next.ensures
