-- What the function that writes a stored form assumes and leaves. Only private contracts cite these definitions.
use Rattle.std.specs.Prelude.{ℕ, ◌+◌, ◌/◌, ◌≤◌, ◌≡◌, true, List, eqb, length, take, drop}
use Rattle.base.specs.Lists.{every, overlaid}
use Rattle.base.specs.Digits.{halves}
use Rattle.word.specs.Letters.{is_letter}
use Rattle.word_stored.specs.Stored.{stored_file}

-- the bytes hold the codes of an accepted word of n letters
pub record Storable (part : List ℕ) (n : ℕ) : Type 0 where
  pub few : n ≤ 10000
  pub size : length part ≡ (n + 1) / 2
  pub lettered : every is_letter (take n (halves part)) ≡ true
  pub filled : every (λ h. eqb h 0) (drop n (halves part)) ≡ true

-- the stored form of n codes stands in the output's first bytes, and its size is returned
abbrev pub WritesStored : List ℕ → ℕ → List ℕ → List ℕ → ℕ → Type 0
WritesStored part n before after bytes =
    (bytes ≡ length (stored_file (take n (halves part))))
    × (after ≡ overlaid (stored_file (take n (halves part))) before)
