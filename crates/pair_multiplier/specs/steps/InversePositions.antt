-- What the code needs of a pair's two lists before a letter.
use Rattle.std.specs.Prelude.{ℕ, ◌≡◌, true, List, length}
use Rattle.word.specs.Strands.{are_inverse}

-- eight labels and eight positions that are inverse to each other
pub record InversePositions (labels positions : List ℕ) : Type 0 where
  pub strands : length labels ≡ 8
  pub places : length positions ≡ 8
  pub inverse : are_inverse labels positions ≡ true
