-- Arcs: parts of a word in which one strand goes over the others at each of its crossings, or under the others at each.
-- Such a strand can be lifted off and laid anew. Strands stand at places 0 to 7. A letter of generator g crosses the
-- strands at g and g + 1.
use Rattle.std.specs.Prelude.{ℕ, suc, ◌+◌, ◌-◌, ◌≤◌, ◌<◌, ◌≡◌, Bool, true, cond, List, [], ◌∷◌, ◌++◌, leb, length}
use Rattle.word.specs.Letters.{is_letter, generator}

-- the letter by which the strand steps from place x to the next place on its right
abbrev pub rightward : Bool → ℕ → ℕ
rightward under x = cond under (x + 8) x

-- the letter by which the strand steps back to place x from the next place
abbrev pub leftward : Bool → ℕ → ℕ
leftward under x = cond under x (x + 8)

-- A letter of two other strands, with the strand at place x. With the strand at place 0 it would be the letter d. It is
-- d if the strand stands before both of them. It has the generator before d's if the strand stands behind both of them.
abbrev pub beside : ℕ → ℕ → ℕ
beside d x = cond (leb x (generator d)) d (d - 1)

-- The part is an arc of a strand from place x to place y. The last list has the letters of the other strands, each as
-- it would be with the strand at place 0. The strand is never between the two strands that such a letter crosses.
pub data Arc (under : Bool) : ℕ → List ℕ → ℕ → List ℕ → Type 0 where
  none : {x : ℕ} → x ≤ 7 → Arc under x [] x []
  right : {x y : ℕ} {part others : List ℕ} → x < 7 → Arc under (suc x) part y others
      → Arc under x (rightward under x ∷ part) y others
  left : {x y : ℕ} {part others : List ℕ} → x < 7 → Arc under x part y others
      → Arc under (suc x) (leftward under x ∷ part) y others
  other : {x y : ℕ} {part others : List ℕ} (d : ℕ) → is_letter d ≡ true → 0 < generator d → (generator d ≡ x → ⊥)
      → Arc under x part y others
      → Arc under x (beside d x ∷ part) y (d ∷ others)

-- Both parts are arcs over the other strands, or both are arcs under them. They have the same start, the same end and
-- the same other letters. The new part is not longer.
pub record Relaid (under : Bool) (start : ℕ) (old new : List ℕ) : Type 0 where
  pub end : ℕ
  pub others : List ℕ
  pub was : Arc under start old end others
  pub is : Arc under start new end others
  pub not_longer : length new ≤ length old

-- arcs laid anew inside a word, one after another, lead from the first word to the second
pub data Relays : List ℕ → List ℕ → Type 0 where
  done : {w : List ℕ} → Relays w w
  then : {w v : List ℕ} {under : Bool} {start : ℕ} (front old new rest : List ℕ) → w ≡ front ++ (old ++ rest)
      → Relaid under start old new
      → Relays (front ++ (new ++ rest)) v
      → Relays w v
