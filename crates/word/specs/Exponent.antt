-- The number of positive letters less the number of inverse letters, as an integer, which may be below zero.
use Rattle.std.specs.Prelude.{ℕ, List, ℤ, pos, ◌-ℤ◌}
use Rattle.base.specs.Lists.{tally}
use Rattle.word.specs.Letters.{is_positive, is_inverse}

-- positive letters have codes 0 to 6, inverse letters have codes 8 to 14
unfoldable pub exponent_sum : List ℕ → ℤ
exponent_sum w = pos (tally is_positive w) -ℤ pos (tally is_inverse w)
