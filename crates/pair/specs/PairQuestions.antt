-- The questions about T-values and a pair that a caller hands in, and the pair that a refusal gives.
use Rattle.std.specs.Prelude.{ℕ, ◌&&◌, List, [], ◌∷◌, replicate}
use Rattle.base.specs.Questions.{Question, ◌else◌}
use Rattle.field.specs.declared.Field.{Field}
use Rattle.pair.specs.declared.Pair.{Pair}
use Rattle.word.specs.Strands.{are_inverse}
use Rattle.pair_operands.specs.Operands.{elements, nonzero}

-- The questions about T-values, a pair, and other entries beside the pair: 17 for T-values and all entries, then 4, 6.
-- 6 asks whether the list is 0 to 7, each once, and the positions are its inverse list.
abbrev pub pair_questions : Field → List ℕ → Pair → List ℕ → List Question
pair_questions f ts p others =
    (elements f ts && elements f p.matrix && elements f others else 17)
    ∷ (nonzero ts else 4)
    ∷ (are_inverse p.labels p.positions else 6)
    ∷ []

-- the pair of a refusal: all its numbers are zero
unfoldable pub zero_pair : Pair
zero_pair = record { matrix = replicate 64 0; labels = replicate 8 0; positions = replicate 8 0 }
