-- Source 000, Appendix A: the relations between Y generators for parts 4 and 3, in its order. A relation is a Y word
-- whose Artin word carries every pair to itself (`Kept`). Rows 21, 23 and 25 repeat rows 15, 19 and 7, as in the
-- source.
use Rattle.std.specs.Prelude.{ℕ, ◌+◌, ◌-◌, ◌≡◌, Bool, cond, ◌&&◌, List, [], ◌∷◌, ◌++◌, leb, ltb, eqb, length, take}
use Rattle.std.specs.Prelude.{drop, get_or}
use Rattle.base.specs.Lists.{first_from}
use Rattle.field.specs.Binary.{Operations, BinaryField}
use Rattle.pair.specs.declared.Pair.{Pair}
use Rattle.pair.specs.Action.{word_on}
use Rattle.pair.specs.Good.{TValues, GoodPair}
use Rattle.word_dialect.specs.Dialect.{inverted, from_y, converted}

-- the parts that Appendix A is made for
abbrev pub appendix_parts : List ℕ
appendix_parts = 4 ∷ 3 ∷ []

-- the Artin word of a Y word, for parts 4 and 3
abbrev pub artin : List ℕ → List ℕ
artin w = converted from_y appendix_parts w

-- the codes of Y letters: `y 4` is the source's {4,1}, and `y⁻ 4` is its {4,-1}
abbrev pub y : ℕ → ℕ
y k = k - 1

abbrev pub y⁻ : ℕ → ℕ
y⁻ k = k + 7

unfoldable pub relations : List (List ℕ)
relations =
    (y 4 ∷ y 7 ∷ y⁻ 4 ∷ y⁻ 7 ∷ [])
    ∷ (y⁻ 7 ∷ y 4 ∷ y 7 ∷ y⁻ 4 ∷ [])
    ∷ (y 7 ∷ y 4 ∷ y⁻ 7 ∷ y⁻ 4 ∷ [])
    ∷ (y 2 ∷ y 1 ∷ y 4 ∷ y⁻ 1 ∷ y⁻ 1 ∷ [])
    ∷ (y 3 ∷ y 2 ∷ y 4 ∷ y⁻ 2 ∷ y⁻ 2 ∷ [])
    ∷ (y 6 ∷ y 5 ∷ y 7 ∷ y⁻ 5 ∷ y⁻ 5 ∷ [])
    ∷ (y 7 ∷ y 6 ∷ y 7 ∷ y⁻ 6 ∷ y⁻ 6 ∷ [])
    ∷ (y⁻ 1 ∷ y 2 ∷ y 1 ∷ y 4 ∷ y⁻ 1 ∷ [])
    ∷ (y⁻ 2 ∷ y 3 ∷ y 2 ∷ y 4 ∷ y⁻ 2 ∷ [])
    ∷ (y⁻ 5 ∷ y 6 ∷ y 5 ∷ y 7 ∷ y⁻ 5 ∷ [])
    ∷ (y⁻ 6 ∷ y 7 ∷ y 6 ∷ y 7 ∷ y⁻ 6 ∷ [])
    ∷ (y 1 ∷ y 1 ∷ y⁻ 4 ∷ y⁻ 1 ∷ y⁻ 2 ∷ [])
    ∷ (y 2 ∷ y 2 ∷ y⁻ 4 ∷ y⁻ 2 ∷ y⁻ 3 ∷ [])
    ∷ (y 5 ∷ y 5 ∷ y⁻ 7 ∷ y⁻ 5 ∷ y⁻ 6 ∷ [])
    ∷ (y 6 ∷ y 6 ∷ y⁻ 7 ∷ y⁻ 6 ∷ y⁻ 7 ∷ [])
    ∷ (y⁻ 2 ∷ y 1 ∷ y 1 ∷ y⁻ 4 ∷ y⁻ 1 ∷ [])
    ∷ (y⁻ 3 ∷ y 2 ∷ y 2 ∷ y⁻ 4 ∷ y⁻ 2 ∷ [])
    ∷ (y⁻ 6 ∷ y 5 ∷ y 5 ∷ y⁻ 7 ∷ y⁻ 5 ∷ [])
    ∷ (y⁻ 7 ∷ y 6 ∷ y 6 ∷ y⁻ 7 ∷ y⁻ 6 ∷ [])
    ∷ (y 3 ∷ y 3 ∷ y⁻ 4 ∷ y⁻ 3 ∷ y⁻ 4 ∷ [])
    ∷ (y 6 ∷ y 6 ∷ y⁻ 7 ∷ y⁻ 6 ∷ y⁻ 7 ∷ [])
    ∷ (y⁻ 4 ∷ y 3 ∷ y 3 ∷ y⁻ 4 ∷ y⁻ 3 ∷ [])
    ∷ (y⁻ 7 ∷ y 6 ∷ y 6 ∷ y⁻ 7 ∷ y⁻ 6 ∷ [])
    ∷ (y 4 ∷ y 3 ∷ y 4 ∷ y⁻ 3 ∷ y⁻ 3 ∷ [])
    ∷ (y 7 ∷ y 6 ∷ y 7 ∷ y⁻ 6 ∷ y⁻ 6 ∷ [])
    ∷ (y 1 ∷ y⁻ 2 ∷ y 4 ∷ y 2 ∷ y⁻ 1 ∷ y⁻ 4 ∷ [])
    ∷ (y 2 ∷ y⁻ 3 ∷ y 4 ∷ y 3 ∷ y⁻ 2 ∷ y⁻ 4 ∷ [])
    ∷ (y 4 ∷ y 6 ∷ y⁻ 7 ∷ y⁻ 4 ∷ y 7 ∷ y⁻ 6 ∷ [])
    ∷ (y 1 ∷ y⁻ 2 ∷ y 7 ∷ y 2 ∷ y⁻ 1 ∷ y⁻ 7 ∷ [])
    ∷ (y 2 ∷ y⁻ 3 ∷ y 7 ∷ y 3 ∷ y⁻ 2 ∷ y⁻ 7 ∷ [])
    ∷ (y 3 ∷ y⁻ 4 ∷ y 7 ∷ y 4 ∷ y⁻ 3 ∷ y⁻ 7 ∷ [])
    ∷ (y 5 ∷ y⁻ 6 ∷ y 7 ∷ y 6 ∷ y⁻ 5 ∷ y⁻ 7 ∷ [])
    ∷ (y⁻ 4 ∷ y 1 ∷ y⁻ 2 ∷ y 4 ∷ y 2 ∷ y⁻ 1 ∷ [])
    ∷ (y⁻ 4 ∷ y 2 ∷ y⁻ 3 ∷ y 4 ∷ y 3 ∷ y⁻ 2 ∷ [])
    ∷ (y⁻ 6 ∷ y 4 ∷ y 6 ∷ y⁻ 7 ∷ y⁻ 4 ∷ y 7 ∷ [])
    ∷ (y⁻ 7 ∷ y 1 ∷ y⁻ 2 ∷ y 7 ∷ y 2 ∷ y⁻ 1 ∷ [])
    ∷ (y⁻ 7 ∷ y 2 ∷ y⁻ 3 ∷ y 7 ∷ y 3 ∷ y⁻ 2 ∷ [])
    ∷ (y⁻ 7 ∷ y 3 ∷ y⁻ 4 ∷ y 7 ∷ y 4 ∷ y⁻ 3 ∷ [])
    ∷ (y⁻ 7 ∷ y 5 ∷ y⁻ 6 ∷ y 7 ∷ y 6 ∷ y⁻ 5 ∷ [])
    ∷ (y 4 ∷ y 1 ∷ y⁻ 2 ∷ y⁻ 4 ∷ y 2 ∷ y⁻ 1 ∷ [])
    ∷ (y 4 ∷ y 2 ∷ y⁻ 3 ∷ y⁻ 4 ∷ y 3 ∷ y⁻ 2 ∷ [])
    ∷ (y 6 ∷ y⁻ 7 ∷ y 4 ∷ y 7 ∷ y⁻ 6 ∷ y⁻ 4 ∷ [])
    ∷ (y 7 ∷ y 1 ∷ y⁻ 2 ∷ y⁻ 7 ∷ y 2 ∷ y⁻ 1 ∷ [])
    ∷ (y 7 ∷ y 2 ∷ y⁻ 3 ∷ y⁻ 7 ∷ y 3 ∷ y⁻ 2 ∷ [])
    ∷ (y 7 ∷ y 3 ∷ y⁻ 4 ∷ y⁻ 7 ∷ y 4 ∷ y⁻ 3 ∷ [])
    ∷ (y 7 ∷ y 5 ∷ y⁻ 6 ∷ y⁻ 7 ∷ y 6 ∷ y⁻ 5 ∷ [])
    ∷ (y 1 ∷ y⁻ 3 ∷ y 1 ∷ y⁻ 2 ∷ y 3 ∷ y⁻ 1 ∷ y 3 ∷ y⁻ 2 ∷ [])
    ∷ (y 2 ∷ y⁻ 4 ∷ y 2 ∷ y⁻ 3 ∷ y 4 ∷ y⁻ 2 ∷ y 4 ∷ y⁻ 3 ∷ [])
    ∷ (y 5 ∷ y⁻ 7 ∷ y 5 ∷ y⁻ 6 ∷ y 7 ∷ y⁻ 5 ∷ y 7 ∷ y⁻ 6 ∷ [])
    ∷ (y⁻ 2 ∷ y 1 ∷ y⁻ 3 ∷ y 1 ∷ y⁻ 2 ∷ y 3 ∷ y⁻ 1 ∷ y 3 ∷ [])
    ∷ (y⁻ 3 ∷ y 2 ∷ y⁻ 4 ∷ y 2 ∷ y⁻ 3 ∷ y 4 ∷ y⁻ 2 ∷ y 4 ∷ [])
    ∷ (y⁻ 6 ∷ y 5 ∷ y⁻ 7 ∷ y 5 ∷ y⁻ 6 ∷ y 7 ∷ y⁻ 5 ∷ y 7 ∷ [])
    ∷ (y 2 ∷ y⁻ 3 ∷ y 1 ∷ y⁻ 3 ∷ y 2 ∷ y⁻ 1 ∷ y 3 ∷ y⁻ 1 ∷ [])
    ∷ (y 3 ∷ y⁻ 4 ∷ y 2 ∷ y⁻ 4 ∷ y 3 ∷ y⁻ 2 ∷ y 4 ∷ y⁻ 2 ∷ [])
    ∷ (y 6 ∷ y⁻ 7 ∷ y 5 ∷ y⁻ 7 ∷ y 6 ∷ y⁻ 5 ∷ y 7 ∷ y⁻ 5 ∷ [])
    ∷ (y 1 ∷ y⁻ 2 ∷ y 3 ∷ y⁻ 4 ∷ y 2 ∷ y⁻ 1 ∷ y 4 ∷ y⁻ 3 ∷ [])
    ∷ (y 1 ∷ y⁻ 2 ∷ y 5 ∷ y⁻ 6 ∷ y 2 ∷ y⁻ 1 ∷ y 6 ∷ y⁻ 5 ∷ [])
    ∷ (y 2 ∷ y⁻ 3 ∷ y 5 ∷ y⁻ 6 ∷ y 3 ∷ y⁻ 2 ∷ y 6 ∷ y⁻ 5 ∷ [])
    ∷ (y 3 ∷ y⁻ 4 ∷ y 5 ∷ y⁻ 6 ∷ y 4 ∷ y⁻ 3 ∷ y 6 ∷ y⁻ 5 ∷ [])
    ∷ (y 1 ∷ y⁻ 2 ∷ y 6 ∷ y⁻ 7 ∷ y 2 ∷ y⁻ 1 ∷ y 7 ∷ y⁻ 6 ∷ [])
    ∷ (y 2 ∷ y⁻ 3 ∷ y 6 ∷ y⁻ 7 ∷ y 3 ∷ y⁻ 2 ∷ y 7 ∷ y⁻ 6 ∷ [])
    ∷ (y 3 ∷ y⁻ 4 ∷ y 6 ∷ y⁻ 7 ∷ y 4 ∷ y⁻ 3 ∷ y 7 ∷ y⁻ 6 ∷ [])
    ∷ (y⁻ 3 ∷ y 1 ∷ y⁻ 2 ∷ y 3 ∷ y⁻ 4 ∷ y 2 ∷ y⁻ 1 ∷ y 4 ∷ [])
    ∷ (y⁻ 5 ∷ y 1 ∷ y⁻ 2 ∷ y 5 ∷ y⁻ 6 ∷ y 2 ∷ y⁻ 1 ∷ y 6 ∷ [])
    ∷ (y⁻ 5 ∷ y 2 ∷ y⁻ 3 ∷ y 5 ∷ y⁻ 6 ∷ y 3 ∷ y⁻ 2 ∷ y 6 ∷ [])
    ∷ (y⁻ 5 ∷ y 3 ∷ y⁻ 4 ∷ y 5 ∷ y⁻ 6 ∷ y 4 ∷ y⁻ 3 ∷ y 6 ∷ [])
    ∷ (y⁻ 6 ∷ y 1 ∷ y⁻ 2 ∷ y 6 ∷ y⁻ 7 ∷ y 2 ∷ y⁻ 1 ∷ y 7 ∷ [])
    ∷ (y⁻ 6 ∷ y 2 ∷ y⁻ 3 ∷ y 6 ∷ y⁻ 7 ∷ y 3 ∷ y⁻ 2 ∷ y 7 ∷ [])
    ∷ (y⁻ 6 ∷ y 3 ∷ y⁻ 4 ∷ y 6 ∷ y⁻ 7 ∷ y 4 ∷ y⁻ 3 ∷ y 7 ∷ [])
    ∷ (y 3 ∷ y⁻ 4 ∷ y 1 ∷ y⁻ 2 ∷ y 4 ∷ y⁻ 3 ∷ y 2 ∷ y⁻ 1 ∷ [])
    ∷ (y 5 ∷ y⁻ 6 ∷ y 1 ∷ y⁻ 2 ∷ y 6 ∷ y⁻ 5 ∷ y 2 ∷ y⁻ 1 ∷ [])
    ∷ (y 5 ∷ y⁻ 6 ∷ y 2 ∷ y⁻ 3 ∷ y 6 ∷ y⁻ 5 ∷ y 3 ∷ y⁻ 2 ∷ [])
    ∷ (y 5 ∷ y⁻ 6 ∷ y 3 ∷ y⁻ 4 ∷ y 6 ∷ y⁻ 5 ∷ y 4 ∷ y⁻ 3 ∷ [])
    ∷ (y 6 ∷ y⁻ 7 ∷ y 1 ∷ y⁻ 2 ∷ y 7 ∷ y⁻ 6 ∷ y 2 ∷ y⁻ 1 ∷ [])
    ∷ (y 6 ∷ y⁻ 7 ∷ y 2 ∷ y⁻ 3 ∷ y 7 ∷ y⁻ 6 ∷ y 3 ∷ y⁻ 2 ∷ [])
    ∷ (y 6 ∷ y⁻ 7 ∷ y 3 ∷ y⁻ 4 ∷ y 7 ∷ y⁻ 6 ∷ y 4 ∷ y⁻ 3 ∷ [])
    ∷ (y 4 ∷ y 5 ∷ y⁻ 6 ∷ y 4 ∷ y 6 ∷ y⁻ 5 ∷ y⁻ 4 ∷ y 6 ∷ y⁻ 5 ∷ [])
    ∷ (y⁻ 5 ∷ y 4 ∷ y 5 ∷ y⁻ 6 ∷ y 4 ∷ y 6 ∷ y⁻ 5 ∷ y⁻ 4 ∷ y 6 ∷ [])
    ∷ (y 5 ∷ y⁻ 6 ∷ y 4 ∷ y 5 ∷ y⁻ 6 ∷ y⁻ 4 ∷ y 6 ∷ y⁻ 5 ∷ y⁻ 4 ∷ [])
    ∷ []

-- A row is kept if its Artin word carries every pair to itself: over every binary field, so over both fields, for all
-- T-values other than zero and all good pairs.
pub record Kept (row : List ℕ) : Type 0 where
  pub carries : (F : Operations) → BinaryField F → (ts : List ℕ) → TValues F ts → (p : Pair) → GoodPair F p
      → word_on F ts (artin row) p ≡ p

-- every row of a list has the property P
pub data All (P : List ℕ → Type 0) : List (List ℕ) → Type 0 where
  none : All P []
  also : {row : List ℕ} {rows : List (List ℕ)} → P row → All P rows → All P (row ∷ rows)

-- ---- pair replacement

-- do the two letters stand at place k of the row, one right after the other?
abbrev pub holds_at : ℕ → ℕ → List ℕ → ℕ → Bool
holds_at c d row k = leb (k + 2) (length row) && (eqb (get_or row k 0) c && eqb (get_or row (k + 1) 0) d)

-- the first place of the row at which the two letters stand; the row's length if there is none
unfoldable pub place_in : ℕ → ℕ → List ℕ → ℕ
place_in c d row = first_from (holds_at c d row) 0 (length row)

-- the inverse of the letters before places k and k + 1 of the row, then the inverse of the letters after them
abbrev pub inverse_around : ℕ → List ℕ → List ℕ
inverse_around k row = inverted (take k row) ++ inverted (drop (k + 2) row)

-- What two letters become, by the first row that holds them, at its first place that holds them. Without such a row
-- they stay.
unfoldable pub replacement : List (List ℕ) → ℕ → ℕ → List ℕ
replacement [] c d = c ∷ d ∷ []
replacement (row ∷ rows) c d =
    cond (ltb (place_in c d row) (length row)) (inverse_around (place_in c d row) row) (replacement rows c d)
