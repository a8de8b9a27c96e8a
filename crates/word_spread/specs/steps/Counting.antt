-- How the words are counted, for private contracts: one number for each of the 24 lists, and a letter more at a step.
use Rattle.std.specs.Prelude.{ℕ, ◌+◌, ◌-◌, ◌*◌, ◌^◌, ◌≤◌, ◌<◌, ◌≡◌, Bool, cond, not, ◌&&◌, List, ltb, eqb}
use Rattle.std.specs.Prelude.{length, get_or}
use Rattle.word.specs.Strands.{swapped}
use Rattle.word_spread.specs.Spread.{list_at, ending}

-- four labels are at most 3, and no two of them are equal
abbrev pub all_small : ℕ → ℕ → ℕ → ℕ → Bool
all_small a b c d = ltb a 4 && ltb b 4 && ltb c 4 && ltb d 4

abbrev pub all_differ : ℕ → ℕ → ℕ → ℕ → Bool
all_differ a b c d =
    not (eqb a b) && not (eqb a c) && not (eqb a d) && not (eqb b c) && not (eqb b d) && not (eqb c d)

-- 1 if the first label is smaller, 0 otherwise
unfoldable pub smaller : ℕ → ℕ → ℕ
smaller a b = cond (ltb a b) 1 0

-- The place of the list a b c d among the 24: six lists begin with each label, two of these go on with each other
-- label, and the last two labels stand in order or not
abbrev pub place_of : ℕ → ℕ → ℕ → ℕ → ℕ
place_of a b c d = 6 * a + 2 * (b - smaller a b) + smaller d c

-- the place of the list in which the labels at places g and g + 1 of list k have changed places
pub record SwapPlace (g k place : ℕ) : Type 0 where
  pub within : place < 24
  pub stands : list_at place ≡ swapped g (list_at k)

-- for each of the 24 lists the number of words of n letters that end in it
pub record Counted (n : ℕ) (counts : List ℕ) : Type 0 where
  pub size : length counts ≡ 24
  pub each : (k : ℕ) → k < 24 → get_or counts k 0 ≡ ending n (list_at k)

-- `number` is how many words end in list k that are one letter longer than the words in `counts`
abbrev pub MoreAt : List ℕ → ℕ → ℕ → Type 0
MoreAt counts k number = (n : ℕ) → Counted n counts → number ≡ ending (n + 1) (list_at k)

-- `more` has the numbers for words that are one letter longer than the words in `counts`
abbrev pub OneMore : List ℕ → List ℕ → Type 0
OneMore counts more = (n : ℕ) → Counted n counts → Counted (n + 1) more

-- 24 numbers, each at most 6 to the power of 11. Past the end of the list `get_or` gives 0. Then no sum for words
-- of one letter more is over 6 to the power of 12, which is 2,176,782,336 and fits 32 bits.
pub record Few (counts : List ℕ) : Type 0 where
  pub size : length counts ≡ 24
  pub few : (k : ℕ) → get_or counts k 0 ≤ 6 ^ 11
