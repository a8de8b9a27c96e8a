-- The two lists of a pair are inverse to each other. Document 02, §5, says what the second list holds: for each label,
-- its position. Positions count from 1, as in document 01.
use Rattle.std.specs.Prelude.{ℕ, ◌-◌, ◌≤◌, ◌<◌, ◌≡◌, true, get_or}
use Rattle.word.specs.Strands.{is_order}
use Rattle.pair.specs.declared.Pair.{Pair}

-- the label at position i of the list
abbrev pub label_at : Pair → ℕ → ℕ
label_at p i = get_or p.labels (i - 1) 0

-- the position of label a
abbrev pub position_of : Pair → ℕ → ℕ
position_of p a = get_or p.positions a 0

-- The list is 0 to 7, each once. Each label has a position from 1 to 8. The label at the position of a is a, and the
-- position of the label at position i is i.
pub record InverseLists (p : Pair) : Type 0 where
  pub order : is_order p.labels ≡ true
  pub position_within : (a : ℕ) → a < 8 → (1 ≤ position_of p a) × (position_of p a ≤ 8)
  pub label_there : (a : ℕ) → a < 8 → label_at p (position_of p a) ≡ a
  pub position_there : (i : ℕ) → 1 ≤ i → i ≤ 8 → position_of p (label_at p i) ≡ i
