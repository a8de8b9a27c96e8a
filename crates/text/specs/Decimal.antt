-- Numbers as text: the digits to base 10 without zeros in front. '0' is 48, '-' is 45.
use Rattle.std.specs.Prelude.{ℕ, suc, ◌+◌, ◌^◌, List, ◌∷◌, map, ltb, ℤ, pos, negsuc}
use Rattle.base.specs.Lists.{first_from}
use Rattle.base.specs.Digits.{digits}

-- how many digits a number has: the least k from 1 on for which the number is below 10 to the power k. A number is
-- below 10 to the power of itself, so no k past the number need be tried
unfoldable pub places : ℕ → ℕ
places n = first_from (λ k. ltb n (10 ^ k)) 1 n

-- digits as the bytes that show them
abbrev pub shown : List ℕ → List ℕ
shown ds = map (λ d. 48 + d) ds

-- a number as text, in decimal
unfoldable pub decimal : ℕ → List ℕ
decimal n = shown (digits 10 (places n) n)

-- an integer as text, with a minus sign before one that is below zero
unfoldable pub signed_text : ℤ → List ℕ
signed_text (pos n) = decimal n
signed_text (negsuc n) = 45 ∷ decimal (suc n)
