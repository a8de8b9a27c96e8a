-- `word_reader::letter_of` meets its contract: below the number of codes it returns the half byte at the place. From
-- that number on none is left.
use native.Mathlib.Omega.{arith}
use Rattle.word_reader.proofs.CodeLaws.{count_is, letter_there, none_left}
use Rattle.word_reader.proofs.letter_of.Goals as goal

pub returns-then-n-at : goal.returns-then-n-at
returns-then-n-at c =
    let n = c.count-n in
    none_left c.args.file.now c.args.at n.ensures.0
    c.if-n-at.true

pub slice_bounds-part-count : goal.slice_bounds-part-count
slice_bounds-part-count c = omega (arith, count_is c.args.file.now, c.count-n.ensures.0)

pub returns : goal.returns
returns c =
    let n = c.count-n in
    let a = c.args in
    rw c.half-code.ensures (letter_there a.file.now a.at n.ensures.0 c.if-n-at.false)

pub slice_bounds-part-start : goal.slice_bounds-part-start
slice_bounds-part-start c = slice_bounds-part-count c
