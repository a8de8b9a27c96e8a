-- What two words of the same braid have in common. The words may differ in length, and a code may be no letter. Two
-- words that differ by braid relations have every property below. The converse is not claimed: words with every
-- property below need not be the same braid.
use Rattle.std.specs.Prelude.{ℕ, ◌≡◌, List, length}
use Rattle.base.specs.Lists.{every}
use Rattle.field.specs.Binary.{Operations, BinaryField}
use Rattle.word.specs.Letters.{is_letter}
use Rattle.word.specs.Exponent.{exponent_sum}
use Rattle.word.specs.Strands.{list_after}
use Rattle.pair.specs.declared.Pair.{Pair}
use Rattle.pair.specs.Action.{word_on}
use Rattle.pair.specs.Good.{TValues, GoodPair}
use Rattle.word_crossing.specs.Crossings.{crossings_from}

pub record SameBraid (x y : List ℕ) : Type 0 where
  -- either both are words of letters, or neither is
  pub letters : every is_letter y ≡ every is_letter x
  -- over every binary field, for all T-values other than zero, both words carry each good pair to the same pair
  pub carried : (F : Operations) → BinaryField F → (ts : List ℕ) → TValues F ts → (p : Pair) → GoodPair F p
      → word_on F ts y p ≡ word_on F ts x p
  -- the number of positive letters less the number of inverse ones is the same integer in both
  pub exponent : exponent_sum y ≡ exponent_sum x
  -- both words take every list of eight labels to the same list
  pub lists : (labels : List ℕ) → length labels ≡ 8 → list_after labels y ≡ list_after labels x
  -- from every list of eight labels, the signed number of crossings of every two labels is the same in both
  pub crossed : (labels : List ℕ) → length labels ≡ 8 → (a b : ℕ)
      → crossings_from labels a b y ≡ crossings_from labels a b x
