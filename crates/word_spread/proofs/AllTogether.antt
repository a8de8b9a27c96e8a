-- The numbers of the 24 lists together are 6 to the power of the length: a word of one letter more reaches each list by
-- six letters, and an exchange only puts the 24 lists in another order.
use Prim.Native.Nat.{ℕ, zero, suc, ◌+◌, ◌*◌, ◌^◌}
use mathlib.Core.Path.{◌≡◌, refl, ap, ◌∙◌}
use mathlib.Core.Bool.{Bool, true, ◌&&◌}
use mathlib.Core.List.{List, [], ◌∷◌, map}
use native.Mathlib.Nat.{pow-suc}
use native.Mathlib.Numerals.{add-one}
use native.Mathlib.Omega.{arith}
use borrow.Author.Tests.{eqb-true}
use lib.Dec.{eqb}
use lib.ListN.{length}
use Rattle.base.specs.Lists.{values_from, equal}
use Rattle.base.proofs.ListLaws.{and_left, and_right}
use Rattle.word.specs.Strands.{swapped, list_after}
use Rattle.word_spread.specs.Spread.{rows_of, those, words_between, ending, all_endings, total}
use Rattle.word_spread.proofs.SpreadLaws.{recurrence}
use Rattle.word_spread.proofs.ListsOfFour.{listed, lists_listed}

-- an exchange in each of the 24 lists does not change the sum of a number of each list
exchanged_0 : (f : List ℕ → ℕ) → total (map (λ l. f (swapped 0 l)) listed) ≡ total (map f listed)
unfolding total swapped
exchanged_0 f = omega arith

exchanged_1 : (f : List ℕ → ℕ) → total (map (λ l. f (swapped 1 l)) listed) ≡ total (map f listed)
unfolding total swapped
exchanged_1 f = omega arith

exchanged_2 : (f : List ℕ → ℕ) → total (map (λ l. f (swapped 2 l)) listed) ≡ total (map f listed)
unfolding total swapped
exchanged_2 f = omega arith

-- lists of four labels each
all_four : List (List ℕ) → Bool
all_four [] = true
all_four (l ∷ ls) = eqb (length l) 4 && all_four ls

listed_four : all_four listed ≡ true
unfolding all_four
listed_four = refl

-- one letter more, of any lists
module _ (n : ℕ) where
  abbrev by : ℕ → List (List ℕ) → ℕ
  by g ls = total (map (λ l. ending n (swapped g l)) ls)

  steps : (ls : List (List ℕ)) → all_four ls ≡ true
      → total (map (ending (suc n)) ls) ≡ 2 * (by 0 ls + by 1 ls + by 2 ls)
  unfolding total all_four
  steps [] e = refl
  steps (l ∷ ls) e =
      omega (
        arith,
        rw (add-one n) at (recurrence n l (eqb-true _ _ (and_left (eqb (length l) 4) (all_four ls) e))),
        steps ls (and_right (eqb (length l) 4) (all_four ls) e),
      )

  six_times : total (map (ending (suc n)) listed) ≡ 6 * total (map (ending n) listed)
  six_times =
      omega (arith, steps listed listed_four, exchanged_0 (ending n), exchanged_1 (ending n), exchanged_2 (ending n))

-- one word has no letters
none : total (map (ending 0) listed) ≡ 1
unfolding total ending words_between rows_of those list_after values_from equal
none = refl

powers : (n : ℕ) → total (map (ending n) listed) ≡ 6 ^ n
powers zero = none
powers (suc n) = omega (arith, six_times n, powers n, pow-suc 6 n)

pub endings_together : (n : ℕ) → total (all_endings n) ≡ 6 ^ n
unfolding all_endings
endings_together n = ap (λ (ls : List (List ℕ)). total (map (ending n) ls)) lists_listed ∙ powers n
