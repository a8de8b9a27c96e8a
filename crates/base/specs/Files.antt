-- Files that consist of parts, one after another.
use Rattle.std.specs.Prelude.{ℕ, zero, suc, ◌+◌, List, [], ◌∷◌, ◌++◌, get_or}
use Rattle.base.specs.Digits.{part}

-- parts, one after another, as one list
abbrev pub joined : List (List ℕ) → List ℕ
joined [] = []
joined (xs ∷ rest) = xs ++ joined rest

-- the place where part i begins, counted from 0, if the parts have these sizes and part 0 begins at `at`
abbrev pub place_from : ℕ → List ℕ → ℕ → ℕ
place_from at [] i = at
place_from at (n ∷ sizes) zero = at
place_from at (n ∷ sizes) (suc i) = place_from (at + n) sizes i

-- part i, counted from 0, of a file whose parts have these sizes
abbrev pub file_part : List ℕ → ℕ → List ℕ → List ℕ
file_part sizes i file = part (place_from 0 sizes i) (get_or sizes i 0) file

-- all parts of a file whose part 0 begins at `at`
abbrev pub parts_from : ℕ → List ℕ → List ℕ → List (List ℕ)
parts_from at [] file = []
parts_from at (n ∷ sizes) file = part at n file ∷ parts_from (at + n) sizes file
