-- Swap and cancel: a letter and its inverse go if every letter between them is far from them. The word is the first n
-- codes of a row.
use Rattle.std.specs.Prelude.{ℕ, ◌≡◌, cond, ◌&&◌, List, [], ◌∷◌, eqb, length, take}
use Rattle.base.specs.Lists.{every}
use Rattle.word.specs.Letters.{inverse, far}

-- a letter behind a word: the letter and its inverse go if every letter between them is far from them; otherwise the
-- letter stays
unfoldable pub letter_behind : List ℕ → ℕ → List ℕ
letter_behind [] c = c ∷ []
letter_behind (d ∷ w) c = cond (eqb d (inverse c) && every (far c) w) w (d ∷ letter_behind w c)

-- the letters of a second word behind a word, one after another
unfoldable pub letters_behind : List ℕ → List ℕ → List ℕ
letters_behind w [] = w
letters_behind w (c ∷ rest) = letters_behind (letter_behind w c) rest

-- what swapping and cancelling leaves of a word
abbrev pub swap_cancelled : List ℕ → List ℕ
swap_cancelled w = letters_behind [] w

-- The first r codes of the row are what swapping and cancelling leaves of its first n codes.
pub record Cancelled (n : ℕ) (before after : List ℕ) (r : ℕ) : Type 0 where
  pub word_is : take r after ≡ swap_cancelled (take n before)
  pub count_is : r ≡ length (swap_cancelled (take n before))
