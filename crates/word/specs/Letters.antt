-- Letters of braid words: the Artin generators b1 to b7 and their inverses. A letter is given by its code of four bits.
use Rattle.std.specs.Prelude.{ℕ, ◌+◌, ◌%◌, Bool, ◌&&◌, ◌||◌, leb, eqb}
use Rattle.std.specs.Bool.{beq}
use Rattle.std.specs.Int.Bits.{bit_xor}

-- codes 0 to 6 are b1 to b7
abbrev pub is_positive : ℕ → Bool
is_positive c = leb c 6

-- codes 8 to 14 are the inverses of b1 to b7
abbrev pub is_inverse : ℕ → Bool
is_inverse c = leb 8 c && leb c 14

-- codes 7 and 15 are no letters, and no number over 15 is a letter
abbrev pub is_letter : ℕ → Bool
is_letter c = is_positive c || is_inverse c

-- the generator's number less one: 0 for b1
abbrev pub generator : ℕ → ℕ
generator c = c % 8

-- the code of the letter's inverse: the generator is the same, and the high bit changes
abbrev pub inverse : ℕ → ℕ
inverse c = bit_xor c 8

-- the generators differ by at least 2
abbrev pub far : ℕ → ℕ → Bool
far c d = leb (generator c + 2) (generator d) || leb (generator d + 2) (generator c)

-- the generators differ by 1
abbrev pub neighbours : ℕ → ℕ → Bool
neighbours c d = eqb (generator c + 1) (generator d) || eqb (generator d + 1) (generator c)

-- both letters are inverses, or neither is
abbrev pub same_sign : ℕ → ℕ → Bool
same_sign c d = beq (is_inverse c) (is_inverse d)
