-- What the laws of pairs assume: T-values other than zero, and a pair with 64 elements of the field, eight labels from
-- 0 to 7, and the inverse list of the labels. The laws do not assume that each label occurs once.
use Rattle.std.specs.Prelude.{ℕ, ◌<◌, ◌≡◌, List, length, get_or}
use Rattle.field.specs.Binary.{Operations}
use Rattle.word.specs.Strands.{inverse_list}
use Rattle.pair.specs.declared.Pair.{Pair}

-- the T-value of each label 0 to 7 is an element of the field other than zero
pub record TValues (F : Operations) (ts : List ℕ) : Type 0 where
  pub above_zero : (a : ℕ) → a < 8 → 0 < get_or ts a 0
  pub below_size : (a : ℕ) → a < 8 → get_or ts a 0 < F.size

-- 64 elements of the field, eight labels below 8, and their inverse list. Past the end of a list `get_or` gives 0.
pub record GoodPair (F : Operations) (p : Pair) : Type 0 where
  pub entries : length p.matrix ≡ 64
  pub entry_below : (k : ℕ) → get_or p.matrix k 0 < F.size
  pub strands : length p.labels ≡ 8
  pub label_below : (k : ℕ) → get_or p.labels k 0 < 8
  pub positions_are : p.positions ≡ inverse_list p.labels
