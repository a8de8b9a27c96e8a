-- The digest's braid without what cancels between half bytes. These definitions are for the contracts of functions that
-- are no operation of the papers. At level l the letters b7 down to b_(l+1) are multiplied in, and at level 7 none is.
use Rattle.std.specs.Prelude.{ℕ, ◌+◌, ◌*◌, ◌-◌, ◌≤◌, ◌≡◌, cond, List, ◌++◌, map, reverse, ltb, replicate}
use Rattle.base.specs.Lists.{values_from}
use Rattle.field.specs.Binary.{Operations, BinaryField}
use Rattle.field.specs.Polynomial.{Degree, polynomials}
use Rattle.matrix_columns.specs.steps.Constants.{Constants}
use Rattle.word.specs.Strands.{strands_in_order, list_after}
use Rattle.pair.specs.declared.Pair.{Pair}
use Rattle.pair.specs.Action.{word_on, start}
use Rattle.pair.specs.Good.{TValues, GoodPair}
use Rattle.pair.specs.steps.Columns.{held_pair, Held}
use Rattle.pair_powers.specs.steps.Powers.{PowerTable}
use Rattle.slip_digest.specs.Digest.{selected, power_of, above, encoded}

-- The way from level l to level m: the inverses of b_(l+1) up to b_m, or b_l down to b_(m+1).
unfoldable pub way : ℕ → ℕ → List ℕ
way l m =
    cond (ltb l m) (map (λ c. c + 8) (values_from (λ c. c) l (m - l))) (reverse (values_from (λ c. c) m (l - m)))

-- the power of a half byte: b_l, 2 × p times
abbrev pub power_run : ℕ → List ℕ
power_run h = replicate (2 * power_of h) (selected h - 1)

-- the list at level l: that of the letters b7 down to b_(l+1), from the list 0 to 7
unfoldable pub level_list : ℕ → List ℕ
level_list l = list_after strands_in_order (reverse (above l))

-- a binary field of polynomials, T-values, their constants, and the constants of the powers
pub record Setting (bits p : ℕ) (ts constants powers : List ℕ) : Type 0 where
  pub degree : Degree bits p
  pub binary : BinaryField (polynomials bits p)
  pub constants_are : Constants (polynomials bits p) bits ts constants
  pub powers_are : PowerTable (polynomials bits p) bits constants 4 powers

-- If the pair of columns and labels is good and stands at level l, the word w carries it to the new pair.
abbrev pub CarriedFrom : ℕ → List ℕ → List ℕ → ℕ → List ℕ → List ℕ → List ℕ → List ℕ → List ℕ → Type 0
CarriedFrom bits constants powers l w columns labels columns' labels' =
    (p : ℕ) (ts : List ℕ) → Setting bits p ts constants powers
    → GoodPair (polynomials bits p) (held_pair columns labels)
    → labels ≡ level_list l
    → held_pair columns' labels' ≡ word_on (polynomials bits p) ts w (held_pair columns labels)

-- a half byte is multiplied in from level l
pub record HalfByteCarried (bits : ℕ) (constants powers : List ℕ) (l h : ℕ)
    (columns labels columns' labels' : List ℕ) : Type 0 where
  pub holds : Held bits constants columns' labels'
  pub carries : CarriedFrom bits constants powers l (way l (selected h) ++ power_run h) columns labels columns' labels'

-- a half byte is multiplied in from level l, and r is its level
abbrev pub HalfByteOn : ℕ → List ℕ → List ℕ → ℕ → ℕ → ℕ → List ℕ → List ℕ → List ℕ → List ℕ → Type 0
HalfByteOn bits constants powers l h r columns labels columns' labels' =
    (r ≡ selected h) × (r ≤ 7) × HalfByteCarried bits constants powers l h columns labels columns' labels'

-- over every binary field, for all T-values other than zero, both words carry each good pair to the same pair
pub record SameCarried (x y : List ℕ) : Type 0 where
  pub carried : (F : Operations) → BinaryField F → (ts : List ℕ) → TValues F ts → (p : Pair) → GoodPair F p
      → word_on F ts y p ≡ word_on F ts x p

-- from level 7, a word is multiplied in that carries pairs as the digest's braid does, and it leaves some list
pub record DigestCarried (bits : ℕ) (constants powers digest columns labels columns' : List ℕ) : Type 0 where
  pub word : List ℕ
  pub list : List ℕ
  pub same : SameCarried (encoded digest) word
  pub carries : CarriedFrom bits constants powers 7 word columns labels columns' list

-- over a binary field and T-values other than zero, r is the matrix reached from the identity by the digest's braid
abbrev pub ShortMatrix : Operations → List ℕ → List ℕ → List ℕ → Type 0
ShortMatrix F ts digest r = BinaryField F → TValues F ts → r ≡ (word_on F ts (encoded digest) start).matrix
