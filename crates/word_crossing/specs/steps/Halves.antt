-- How a word is counted in two halves side by side. Both walks start from the list 0 to 7. So the second table counts
-- places of the list between the halves, and not its labels.
use Rattle.std.specs.Prelude.{ℕ, ◌+◌, ◌<◌, ◌≡◌, true, List, ◌++◌, ℤ, pos, ◌-ℤ◌, length, get_or}
use Rattle.word.specs.Strands.{strands_in_order, is_order, list_after}
use Rattle.word_crossing.specs.steps.Counting.{Table, Counts, finding}

-- the tables of a word's two parts, and the list between the parts
pub record Walks (w first second middle : List ℕ) : Type 0 where
  pub front : List ℕ
  pub back : List ℕ
  pub whole : front ++ back ≡ w
  pub firsts : Counts strands_in_order front first
  pub seconds : Counts strands_in_order back second
  pub reached : middle ≡ list_after strands_in_order front
  pub ready : is_order middle ≡ true

-- two tables, and a list of 0 to 7, each once
pub record Ready (first second middle : List ℕ) : Type 0 where
  pub first_table : Table first
  pub second_table : Table second
  pub strands : length middle ≡ 8
  pub order : is_order middle ≡ true

-- How often the labels a and b cross, by both tables: the generators that find them less the inverses. The second table
-- counts places, so p and q are the places of a and b in the middle list.
pub record FoundOf (first second middle : List ℕ) (a b : ℕ) (number : ℤ) : Type 0 where
  pub p : ℕ
  pub q : ℕ
  pub p_below : p < 8
  pub q_below : q < 8
  pub p_holds : get_or middle p 0 ≡ a
  pub q_holds : get_or middle q 0 ≡ b
  pub number_is :
      number
      ≡ pos (finding first 0 a b + finding second 0 p q) -ℤ pos (finding first 1 a b + finding second 1 p q)
