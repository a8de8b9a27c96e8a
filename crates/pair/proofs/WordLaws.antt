-- Words on pairs. Over any operations: a word in two parts, the list that a word leaves, and that a pair's positions
-- decide nothing about matrix and list. Over a binary field: a word keeps a pair good.
use Prim.Native.Nat.{ℕ}
use mathlib.Core.Path.{◌≡◌, refl, sym, ap, ◌∙◌}
use mathlib.Core.List.{List, [], ◌∷◌, ◌++◌}
use Rattle.field.specs.Binary.{Operations, BinaryField}
use Rattle.word.specs.Strands.{inverse_list, list_after}
use Rattle.pair.specs.declared.Pair.{Pair}
use Rattle.pair.specs.Action.{pair_of, letter_on, word_on}
use Rattle.pair.specs.Good.{GoodPair}
use Rattle.pair.proofs.BraidRelations.{letter_good}

-- a word in two parts
pub word_on_append : (F : Operations) (ts v w : List ℕ) (p : Pair)
    → word_on F ts (v ++ w) p ≡ word_on F ts w (word_on F ts v p)
unfolding word_on
word_on_append F ts [] w p = refl
word_on_append F ts (c ∷ v) w p = word_on_append F ts v w (letter_on F ts c p)

-- the list of the pair that a word reaches is the list that the word leaves of the pair's list
pub list_carried : (F : Operations) (ts w : List ℕ) (p : Pair) → (word_on F ts w p).labels ≡ list_after p.labels w
unfolding letter_on word_on list_after
list_carried F ts [] p = refl
list_carried F ts (c ∷ w) p = list_carried F ts w (letter_on F ts c p)

-- A letter reads the matrix and the list of a pair, and not its positions.
pub letter_reads : (F : Operations) (ts : List ℕ) (c : ℕ) (p : Pair)
    → letter_on F ts c (pair_of p.matrix p.labels) ≡ letter_on F ts c p
unfolding letter_on
letter_reads F ts c p = refl

-- Whatever the positions of a pair are, a word gives the matrix and the list that it gives of the pair with the inverse
-- list.
pub matrix_alone : (F : Operations) (ts w : List ℕ) (p : Pair)
    → (word_on F ts w (pair_of p.matrix p.labels)).matrix ≡ (word_on F ts w p).matrix
unfolding word_on
matrix_alone F ts [] p = refl
matrix_alone F ts (c ∷ w) p = ap (λ (q : Pair). (word_on F ts w q).matrix) (letter_reads F ts c p)

pub list_alone : (F : Operations) (ts w : List ℕ) (p : Pair)
    → (word_on F ts w (pair_of p.matrix p.labels)).labels ≡ (word_on F ts w p).labels
list_alone F ts w p = list_carried F ts w (pair_of p.matrix p.labels) ∙ sym (list_carried F ts w p)

-- the positions stay the inverse list
pub positions_follow : (F : Operations) (ts w : List ℕ) (p : Pair) → p.positions ≡ inverse_list p.labels
    → (word_on F ts w p).positions ≡ inverse_list (word_on F ts w p).labels
unfolding word_on letter_on
positions_follow F ts [] p e = e
positions_follow F ts (c ∷ w) p e = positions_follow F ts w (letter_on F ts c p) refl

module _ {F : Operations} (L : BinaryField F) (ts : List ℕ) where
  -- every row of codes, letters or not, keeps a pair good
  pub codes_good : (w : List ℕ) (p : Pair) → GoodPair F p → GoodPair F (word_on F ts w p)
  unfolding word_on
  codes_good [] p good = good
  codes_good (c ∷ w) p good = codes_good w (letter_on F ts c p) (letter_good L ts c p good)
