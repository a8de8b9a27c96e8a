-- `word_spread::all_endings` meets its contract: 35, or the numbers of all lists.
use native.Mathlib.Omega.{arith}
use Rattle.word_spread.proofs.CountLaws.{counted_all}
use Rattle.word_spread.proofs.SpreadAnswer.{all_refused, all_answered}
use Rattle.word_spread.proofs.all_endings.Goals as goal

pub returns-then-length-gt-MAX_LENGTH : goal.returns-then-length-gt-MAX_LENGTH
returns-then-length-gt-MAX_LENGTH c =
    let refusal = c.refusal.ensures in
    all_refused c.args.length (omega (arith, c.if-length-gt-MAX_LENGTH.true)) refusal.0 refusal.1

pub returns : goal.returns
returns c =
    let n = c.args.length in
    all_answered n c.if-length-gt-MAX_LENGTH.false (counted_all n c.counted-numbers.result c.counted-numbers.ensures)
