-- `word::codes::sixteen` meets its contract: each code is a digit to base 16.
use native.Mathlib.Nat.{div-one}
use Rattle.base.specs.Digits.{digits}
use Rattle.word.proofs.codes.sixteen.Goals as goal

pub returns : goal.returns
unfolding digits
returns c = rw (div-one c.args.number)
