-- `word_restore::eight_codes` meets its contract: each code has a digit to base 2 as its sign and a digit to base 8 as
-- its generator.
use mathlib.Core.List.{zip_with}
use native.Mathlib.Nat.{div-one}
use Rattle.base.specs.Digits.{digits}
use Rattle.word_restore.proofs.eight_codes.Goals as goal

pub returns : goal.returns
unfolding digits zip_with
returns c = rw (div-one c.args.signs, div-one c.args.generators)
