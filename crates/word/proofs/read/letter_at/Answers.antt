-- `word::read::letter_at` meets its contract: below the number of letters it returns the half byte at the place. From
-- that number on none is left.
use Rattle.word.proofs.ReadLaws.{some_letter, accepted_word, letter_there, none_left}
use Rattle.word.proofs.read.letter_at.Goals as goal

pub slice_bounds-part-count : goal.slice_bounds-part-count
slice_bounds-part-count c =
    let a = c.args in
    (accepted_word a.file.now
    (some_letter a.file.now a.place c.read_word-w.ensures c.if-place-w.true)).long

pub returns-then-place-w : goal.returns-then-place-w
returns-then-place-w c =
    let a = c.args in
    rw c.half-code.ensures
    (letter_there a.file.now a.place c.read_word-w.ensures
    c.if-place-w.true)

pub returns : goal.returns
returns c =
    let a = c.args in
    none_left a.file.now a.place c.read_word-w.ensures c.if-place-w.false

pub slice_bounds-part-start : goal.slice_bounds-part-start
slice_bounds-part-start c = slice_bounds-part-count c
