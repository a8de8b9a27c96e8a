-- `word::read::is_letter` meets its contract on each path through its test.
use borrow.Author.Tests.{le-leb, lt-leb}
use Rattle.word.proofs.read.is_letter.Goals as goal

pub returns-then-c-le6 : goal.returns-then-c-le6
returns-then-c-le6 c = rw (le-leb _ _ c.if-c-le6.true)

pub returns-then-c-ge8 : goal.returns-then-c-ge8
returns-then-c-ge8 c = rw (lt-leb _ _ c.if-c-le6.false, le-leb _ _ c.if-c-ge8.true)

pub returns-else-c-ge8 : goal.returns-else-c-ge8
returns-else-c-ge8 c = rw (lt-leb _ _ c.if-c-le6.false, lt-leb _ _ c.if-c-ge8.false)
