-- How all pairs are counted in one walk. A table has a counter for each sign and each two labels in order: it counts
-- the letters of that sign that find the first label at their own place and the second at the next.
use Rattle.std.specs.Prelude.{ℕ, ◌+◌, ◌*◌, ◌/◌, ◌≤◌, ◌<◌, ◌≡◌, List, [], ◌∷◌, length, get_or, set}
use Rattle.base.specs.Lists.{count}
use Rattle.word.specs.Letters.{generator}
use Rattle.word.specs.Strands.{swapped}

-- The place of the counter for letters that find the labels p and q. The sign is 0 for a generator and 1 for an
-- inverse.
abbrev pub slot : ℕ → ℕ → ℕ → ℕ
slot sign p q = sign * 64 + p * 8 + q

-- the place at which a letter is counted
abbrev pub slot_of : List ℕ → ℕ → ℕ
slot_of labels c = slot (c / 8) (get_or labels (generator c) 0) (get_or labels (generator c + 1) 0)

-- the places at which the letters of a word are counted, each on the list that the letter before it left
unfoldable pub slots : List ℕ → List ℕ → List ℕ
slots labels [] = []
slots labels (c ∷ w) = slot_of labels c ∷ slots (swapped (generator c) labels) w

-- eight labels below 8. Past the end of the list `get_or` gives 0.
pub record Labelled (labels : List ℕ) : Type 0 where
  pub strands : length labels ≡ 8
  pub below : (k : ℕ) → get_or labels k 0 < 8

-- a table of counts, at most 10,000 each
pub record Table (counts : List ℕ) : Type 0 where
  pub size : length counts ≡ 128
  pub few : (k : ℕ) → get_or counts k 0 ≤ 10000

-- the table of a word's letters from a list on
pub record Counts (labels w counts : List ℕ) : Type 0 where
  pub table : Table counts
  pub counted : (k : ℕ) → get_or counts k 0 ≡ count k (slots labels w)

-- A letter is counted: the counter at its place goes up by 1, and the labels that it finds change places.
abbrev pub OneCounted : ℕ → List ℕ → List ℕ → List ℕ → List ℕ → Type 0
OneCounted c labels counts labels' counts' =
    (labels' ≡ swapped (generator c) labels)
    × (counts' ≡ set counts (slot_of labels c) (get_or counts (slot_of labels c) 0 + 1))

-- how many letters of a sign find two labels, either way round
abbrev pub finding : List ℕ → ℕ → ℕ → ℕ → ℕ
finding counts sign a b = get_or counts (slot sign a b) 0 + get_or counts (slot sign b a) 0
