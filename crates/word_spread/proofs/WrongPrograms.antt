-- The contract shuts out wrong counts, each by a witness: positive letters alone, words after free reduction, a start
-- from another list, a length over 12 accepted, three labels or a label twice accepted, and numbers of 16 bits.
use Prim.Native.Nat.{ℕ, ◌*◌, ◌≤◌, ◌<◌}
use mathlib.Core.Path.{◌≡◌, refl, sym, ◌∙◌}
use mathlib.Core.Bool.{Bool, false, cond, ◌||◌}
use mathlib.Core.List.{List, [], ◌∷◌, map}
use native.Mathlib.Omega.{arith}
use lib.ListN.{length}
use Rattle.base.specs.Questions.{first_no}
use Rattle.base.specs.Lists.{every, tally, values_from, equal, each_once}
use Rattle.word.specs.Reduction.{in_front, reduced}
use Rattle.word.specs.Strands.{swapped, list_after}
use Rattle.word_spread.specs.Spread.{each_in_front, rows_of, those, four_labels, words_between}
use Rattle.word_spread.specs.Spread.{all_lists, total, spread_questions}
use Rattle.word_spread.proofs.ListsOfFour.{twenty_four}
use Rattle.word_spread.proofs.SpreadAnswer.{too_long, no_list}
use Rattle.word_spread.proofs.AnySpread.{Operation, Meets, counts, calls_together, two_unmoved}

-- ---- what they count

abbrev Counting : Type 0
Counting = ℕ → List ℕ → ℕ

-- words of b1, b2 and b3 alone
abbrev positive_alone : Counting
positive_alone n labels =
    length (those (λ w. equal (list_after four_labels w) labels) (rows_of (0 ∷ 1 ∷ 2 ∷ []) n))

-- words that free reduction leaves as they are
abbrev reduced_alone : Counting
reduced_alone n labels = length (those (λ w. equal (reduced w) w) (words_between n four_labels labels))

-- is a row among some rows?
abbrev among : List ℕ → List (List ℕ) → Bool
among row [] = false
among row (r ∷ rows) = equal row r || among row rows

-- the rows without those that stand again later
abbrev different : List (List ℕ) → List (List ℕ)
different [] = []
different (row ∷ rows) = cond (among row rows) (different rows) (row ∷ different rows)

-- the different words that free reduction makes of all words
abbrev after_reduction : Counting
after_reduction n labels = length (different (map reduced (words_between n four_labels labels)))

-- words begun from 1 0 2 3
abbrev started_elsewhere : Counting
started_elsewhere n labels = length (words_between n (1 ∷ 0 ∷ 2 ∷ 3 ∷ []) labels)

-- ---- none of them meets the contract

module _ (f : Operation) (meets : Meets f) where
  -- f gives what g gives, for lengths and lists that pass
  abbrev Gives : Counting → Type 0
  Gives g = (n : ℕ) (labels : List ℕ) → first_no (spread_questions n labels) ≡ 0 → (f n labels).words ≡ g n labels

  -- for length 2 and the unmoved list, 12
  at_two : (g : Counting) → Gives g → 12 ≡ g 2 four_labels
  unfolding first_no each_once every tally values_from
  at_two g gives =
      sym (counts f meets 2 (omega arith) four_labels refl ∙ two_unmoved) ∙ gives 2 four_labels refl

  fewer : (m : ℕ) → m < 12 → 12 ≡ m → ⊥
  fewer m h e = omega arith

  pub no_positive_alone : Gives positive_alone → ⊥
  unfolding those rows_of each_in_front list_after swapped values_from equal
  no_positive_alone wrong = fewer 3 (omega arith) (at_two positive_alone wrong)

  pub no_reduced_alone : Gives reduced_alone → ⊥
  unfolding those rows_of each_in_front words_between list_after swapped values_from equal reduced in_front
  no_reduced_alone wrong = fewer 6 (omega arith) (at_two reduced_alone wrong)

  pub no_count_after_reduction : Gives after_reduction → ⊥
  unfolding those rows_of each_in_front words_between list_after swapped values_from equal reduced in_front
  no_count_after_reduction wrong = fewer 7 (omega arith) (at_two after_reduction wrong)

  pub no_other_start : Gives started_elsewhere → ⊥
  unfolding those rows_of each_in_front words_between list_after swapped values_from equal
  no_other_start wrong = fewer 0 (omega arith) (at_two started_elsewhere wrong)

  -- if the question gives 35, f does not answer 0
  refuses : (n : ℕ) (labels : List ℕ) → first_no (spread_questions n labels) ≡ 35 → (f n labels).answer ≡ 0 → ⊥
  refuses n labels e z =
      let seen : first_no (spread_questions n labels) ≡ 0 = sym (meets n labels).answer_is ∙ z in omega arith

  pub no_thirteen : (labels : List ℕ) → (f 13 labels).answer ≡ 0 → ⊥
  no_thirteen labels = refuses 13 labels (too_long 13 labels (omega arith))

  pub no_three_labels : (n : ℕ) → (f n (0 ∷ 1 ∷ 2 ∷ [])).answer ≡ 0 → ⊥
  no_three_labels n = refuses n (0 ∷ 1 ∷ 2 ∷ []) (no_list n (0 ∷ 1 ∷ 2 ∷ []) refl)

  pub no_label_twice : (n : ℕ) → (f n (0 ∷ 1 ∷ 2 ∷ 2 ∷ [])).answer ≡ 0 → ⊥
  unfolding each_once every tally values_from
  no_label_twice n = refuses n (0 ∷ 1 ∷ 2 ∷ 2 ∷ []) (no_list n (0 ∷ 1 ∷ 2 ∷ 2 ∷ []) refl)

  -- 24 numbers of 16 bits are less than 6 to the power of 12 together
  pub no_16_bits : ((labels : List ℕ) → (f 12 labels).words < 65536) → ⊥
  unfolding total
  no_16_bits small = omega (arith, few all_lists, calls_together f meets 12 (omega arith), twenty_four)
    where
      few : (ls : List (List ℕ)) → total (map (λ l. (f 12 l).words) ls) ≤ length ls * 65536
      few [] = omega arith
      few (l ∷ ls) = omega (arith, small l, few ls)
