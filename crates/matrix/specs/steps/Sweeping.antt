-- Steps of elimination in place. Only private contracts cite them. A record says what a loop has done to the matrix m
-- when the loop has reached column j or row j.
use Rattle.std.specs.Prelude.{ℕ, ◌<◌, ◌≤◌, ◌≡◌, List, length}
use Rattle.field.specs.Binary.{Operations}
use Rattle.matrix.specs.Layout.{entry}
use Rattle.matrix.specs.Elimination.{without}

-- rows n and p have changed places in the columns before j
pub record Raised (n p j : ℕ) (m after : List ℕ) : Type 0 where
  pub size : length after ≡ 64
  pub last : (c : ℕ) → c < j → entry after n c ≡ entry m p c
  pub others : (i c : ℕ) → i < n → c < j → entry after i c ≡ entry m (without n p i) c
  pub rest : (i c : ℕ) → i < 8 → c < 8 → j ≤ c → entry after i c ≡ entry m i c

-- row i has gained g 0, g 1, .. in the columns before j; all other entries are unchanged
pub record RowGained (F : Operations) (g : ℕ → ℕ) (i j : ℕ) (m after : List ℕ) : Type 0 where
  pub size : length after ≡ 64
  pub done : (c : ℕ) → c < j → entry after i c ≡ F.add (entry m i c) (g c)
  pub rest : (r c : ℕ) → r < 8 → c < 8 → (r ≡ i → c < j → ⊥) → entry after r c ≡ entry m r c

-- what row r gains in column c: q times row r's entry in column n, times row n's entry in column c
abbrev pub gain : Operations → ℕ → ℕ → List ℕ → ℕ → ℕ → ℕ
gain F q n m r c = F.mul (F.mul q (entry m r n)) (entry m n c)

-- each row before row j has gained its `gain` in the columns before n; the rows from row j on are unchanged
pub record Swept (F : Operations) (q n j : ℕ) (m after : List ℕ) : Type 0 where
  pub size : length after ≡ 64
  pub done : (r c : ℕ) → r < j → c < n → entry after r c ≡ F.add (entry m r c) (gain F q n m r c)
  pub rest : (r c : ℕ) → r < 8 → c < 8 → j ≤ r → entry after r c ≡ entry m r c
