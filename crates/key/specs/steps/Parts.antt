-- What the functions that pack a key file assume about its parts.
use Rattle.std.specs.Prelude.{ℕ, ◌^◌, ◌≤◌, ◌≡◌, List, length}
use Rattle.base.specs.Packing.{Below}
use Rattle.key.specs.steps.Places.{file_bytes}

-- T-values and entries fit b bits, labels fit 3 bits
pub record Parts (b : ℕ) (ts labels first second : List ℕ) : Type 0 where
  pub ts_below : Below (2 ^ b) ts
  pub labels_below : Below 8 labels
  pub first_below : Below (2 ^ b) first
  pub second_below : Below (2 ^ b) second

-- there are eight T-values, eight labels and 57 entries a matrix
pub record Sizes (ts labels first second : List ℕ) : Type 0 where
  pub ts_size : length ts ≡ 8
  pub labels_size : length labels ≡ 8
  pub first_size : length first ≡ 57
  pub second_size : length second ≡ 57

-- An element has at most 8 bits, the parts fit their bits and have their sizes, and the output has room for the file.
abbrev pub Fillable : ℕ → List ℕ → List ℕ → List ℕ → List ℕ → List ℕ → Type 0
Fillable b ts labels first second out =
    (b ≤ 8) × Parts b ts labels first second × Sizes ts labels first second × (file_bytes b ≤ length out)
