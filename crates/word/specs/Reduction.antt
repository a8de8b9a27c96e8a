-- Free reduction repeats moves of kind 1 until no letter has its inverse right after it.
use Rattle.std.specs.Prelude.{ℕ, ◌+◌, ◌<◌, ◌≡◌, cond, List, [], ◌∷◌, eqb, length, get_or}
use Rattle.word.specs.Letters.{inverse}

-- a letter in front of a reduced word: if the word's first letter is the letter's inverse, the two cancel
unfoldable pub in_front : ℕ → List ℕ → List ℕ
in_front c [] = c ∷ []
in_front c (d ∷ w) = cond (eqb d (inverse c)) w (c ∷ d ∷ w)

-- the freely reduced word: each letter stands in front of the reduced rest
unfoldable pub reduced : List ℕ → List ℕ
reduced [] = []
reduced (c ∷ w) = in_front c (reduced w)

-- no letter has its inverse right after it
abbrev pub Irreducible : List ℕ → Type 0
Irreducible w = (k : ℕ) → k + 1 < length w → get_or w (k + 1) 0 ≡ inverse (get_or w k 0) → ⊥
