-- What the stack of free reduction has room for.
use Rattle.std.specs.Prelude.{ℕ, ◌+◌, ◌≤◌, ◌≡◌, true, List, ◌++◌, length, take, drop}
use Rattle.base.specs.Lists.{every}
use Rattle.word.specs.Letters.{is_letter}
use Rattle.word.specs.Words.{codes}
use Rattle.word.specs.Reduction.{reduced, Irreducible}

-- The condition for pushing codes onto a stack. Only private contracts cite it. The stack has room for the codes behind
-- its first n codes. These n codes are letters, of which no two neighbours cancel. The codes to push are letters
abbrev pub MayCome : ℕ → List ℕ → List ℕ → Type 0
MayCome n stack codes =
    (n + length codes ≤ length stack)
    × Irreducible (take n stack)
    × (every is_letter (take n stack) ≡ true)
    × (every is_letter codes ≡ true)

-- What a push of at most one code leaves: the first r codes are the freely reduced word of the n codes and the code
-- pushed. The codes after place n do not change. Only contracts of functions that are no operation of the papers cite
-- it.
abbrev pub Pushed : ℕ → List ℕ → List ℕ → List ℕ → ℕ → Type 0
Pushed n codes before after r =
    (r ≤ n + 1)
    × (take r after ≡ reduced (take n before ++ codes))
    × (drop (n + 1) after ≡ drop (n + 1) before)
