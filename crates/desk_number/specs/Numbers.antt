-- Numbers that the desk's programs take as arguments, in decimal.
use Rattle.std.specs.Prelude.{ℕ, ◌-◌, cond, ◌&&◌, List, map, ltb, Option, Some, None}
use Rattle.base.specs.Lists.{equal}
use Rattle.base.specs.Digits.{value}
use Rattle.text.specs.Decimal.{decimal}

-- the number that the digits of a text show; '0' is 48
unfoldable pub shown_number : List ℕ → ℕ
shown_number text = value 10 (map (λ x. x - 48) text)

-- The number from 0 to 65,535 that an argument writes: the argument is this number in decimal. Any other argument
-- stands for 65,536.
unfoldable pub number_of : List ℕ → ℕ
number_of argument =
    let n : ℕ = shown_number argument in cond (equal argument (decimal n) && ltb n 65536) n 65536

-- a number, or 65,536 in place of none
abbrev pub number_or_none : Option ℕ → ℕ
number_or_none (Some n) = n
number_or_none None = 65536
