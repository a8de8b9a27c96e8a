-- The rows of Appendix A as the code holds them: ten entries to a row, filled with 15, which is no letter. Only private
-- contracts cite these definitions.
use Rattle.std.specs.Prelude.{ℕ, suc, ◌+◌, ◌-◌, ◌%◌, ◌≤◌, ◌≡◌, true, cond, ◌&&◌, List, [], ◌∷◌, ◌++◌, ltb, eqb}
use Rattle.std.specs.Prelude.{◌<◌, Option, Some, None, length, drop, replicate}
use Rattle.base.specs.Lists.{every}
use Rattle.base.specs.Digits.{part}
use Rattle.word.specs.Letters.{is_letter}
use Rattle.word.specs.Words.{word_file, Wrote}
use Rattle.word_dialect.specs.Dialect.{inverted}
use Rattle.word_replacement.specs.Replacement.{pair_replaced, grown_question}

unfoldable pub flat : List (List ℕ) → List ℕ
flat [] = []
flat (row ∷ rows) = row ++ (replicate (10 - length row) 15 ++ flat rows)

-- how many entries stand before the first place that holds c and d. If no place holds them, it is the number of all
-- entries less one
unfoldable pub before : ℕ → ℕ → List ℕ → ℕ
before c d [] = 0
before c d (x ∷ []) = 0
before c d (x ∷ y ∷ l) = cond (eqb x c && eqb y d) 0 (suc (before c d (y ∷ l)))

-- what the search for c and d finds: the first place that holds them, or none if none of the places before the last
-- holds them
abbrev pub PairFound : ℕ → ℕ → List ℕ → Option ℕ → Type 0
PairFound c d l (Some k) = (k ≡ before c d l) × (k + 1 < length l)
PairFound c d l None = length l ≤ before c d l + 1

-- how many entries stand before the first filler
unfoldable pub filled : List ℕ → ℕ
filled [] = 0
filled (x ∷ l) = cond (eqb x 15) 0 (suc (filled l))

-- the inverse of what stands before entries k and k + 1 in their row, then the inverse of what stands after them
abbrev pub around_entry : ℕ → List ℕ → List ℕ
around_entry k l = inverted (part (k - k % 10) (k % 10) l) ++ inverted (part (k + 2) (filled (drop (k + 2) l)) l)

-- what two letters become, by the first place of all entries that holds them
abbrev pub entry_replacement : List ℕ → ℕ → ℕ → List ℕ
entry_replacement l c d =
    cond (ltb (before c d l + 1) (length l)) (around_entry (before c d l) l) (c ∷ d ∷ [])

-- what the writer of a word with a replaced pair is handed: at most 10,000 letters, two of them at the place, and room
-- in the output
pub record Replaceable (w : List ℕ) (place : ℕ) (out : List ℕ) : Type 0 where
  pub lettered : every is_letter w ≡ true
  pub few : length w ≤ 10000
  pub two : place + 2 ≤ length w
  pub room : 5002 ≤ length out

-- what the writer of a word with a replaced pair returns, and what it leaves in the output
abbrev pub WroteReplaced : List ℕ → ℕ → List ℕ → List ℕ → ℕ → ℕ → Type 0
WroteReplaced w place before after answer bytes =
    Wrote (grown_question w place) (word_file (pair_replaced place w)) before after answer bytes
