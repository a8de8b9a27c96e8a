-- Laws of the counting: the word without letters, a letter more, and how large the numbers are.
use Prim.Native.Nat.{ℕ, zero, suc, ◌+◌, ◌*◌, ◌^◌, ◌≤◌, ◌<◌}
use mathlib.Core.Path.{◌≡◌, refl, sym, ap, ◌∙◌}
use mathlib.Core.Bool.{Bool, true, cond}
use mathlib.Core.List.{List, [], ◌∷◌, map}
use native.Mathlib.Nat.{pow-le-pow_right}
use native.Mathlib.Decide.{dec_le}
use native.Mathlib.Omega.{arith}
use borrow.Author.Tests.{eqb-true}
use lib.Dec.{eqb}
use lib.ListN.{length, get_or, set, replicate, length-map, get_or-eq_default}
use lib.Seq.{ext_get_or}
use Rattle.base.specs.Lists.{every, values, values_from, equal}
use Rattle.base.proofs.ListLaws.{get_d_values, every_values}
use Rattle.word.specs.Strands.{swapped}
use Rattle.word_spread.specs.Spread.{ending, four_labels, all_lists, all_endings, list_at}
use Rattle.word_spread.specs.steps.Counting.{SwapPlace, Counted, MoreAt, Few}
use Rattle.word_spread.proofs.SpreadLaws.{ending_is, no_letters, recurrence, ending_le}
use Rattle.word_spread.proofs.ListsOfFour.{listed, at_listed, twenty_four, rank, list_four, four_long}
use Rattle.word_spread.proofs.ListsOfFour.{neighbour_below, neighbour_at}

-- ---- one letter more

-- the place of the list that an exchange makes of list k
abbrev neighbour : ℕ → ℕ → ℕ
neighbour g k = rank (swapped g (get_or listed k []))

-- for each of the 24 lists this place
unfoldable pub neighbour_row : ℕ → List ℕ
neighbour_row g = values (neighbour g) 24

row_names : (g k : ℕ) → g < 3 → k < 24 → SwapPlace g k (get_or (neighbour_row g) k 0)
unfolding neighbour_row
row_names g k i h =
    let place : get_or (neighbour_row g) k 0 ≡ rank (swapped g (list_at k)) =
    get_d_values (neighbour g) 24 k h ∙ ap (λ (l : List ℕ). rank (swapped g l)) (sym (at_listed k)) in
    let below = neighbour_below g k i h in
    record { within = omega arith; stands = ap list_at place ∙ neighbour_at g k i h }

-- the number at the place of the list after an exchange is how many words end in that list
swap_counts : {g k place n : ℕ} {counts : List ℕ} → SwapPlace g k place → Counted n counts
    → get_or counts place 0 ≡ ending n (swapped g (list_at k))
swap_counts {place = place} {n = n} t c = c.each place t.within ∙ ap (ending n) t.stands

-- the number of words that end in the list that an exchange makes of list k
abbrev pub number_of : List ℕ → ℕ → ℕ → ℕ
number_of counts g k = get_or counts (get_or (neighbour_row g) k 0) 0

pub more_is : (counts : List ℕ) (k : ℕ) → k < 24
    → MoreAt counts k (2 * (number_of counts 0 k + number_of counts 1 k + number_of counts 2 k))
more_is counts k h n all =
    omega (
      arith,
      swap_counts (row_names 0 k (omega arith) h) all,
      swap_counts (row_names 1 k (omega arith) h) all,
      swap_counts (row_names 2 k (omega arith) h) all,
      recurrence n (list_at k) (four_long (list_at k) (list_four k h)),
    )

-- ---- the word without letters

-- the word without letters ends in the list 0 to 3, which is the first
abbrev pub begun : List ℕ
begun = set (replicate 24 0) 0 1

begin_rule : ℕ → Bool
begin_rule k = eqb (get_or begun k 0) (cond (equal four_labels (get_or listed k [])) 1 0)

begin_rules : every begin_rule (values (λ k. k) 24) ≡ true
unfolding begin_rule every values_from equal
begin_rules = refl

pub counted_none : Counted 0 begun
unfolding begin_rule
counted_none =
    record {
      size = refl;
      each = λ k h.
          eqb-true _ _ (every_values begin_rule (λ k. k) 24 begin_rules k h)
          ∙ ap (λ (l : List ℕ). cond (equal four_labels l) 1 0) (sym (at_listed k))
          ∙ sym (ending_is 0 (list_at k) ∙ no_letters four_labels (list_at k));
    }

-- ---- how large the numbers are

-- for a length below 12, at most 6 to the power of 11 words end in a list
pub counted_few : (n : ℕ) (counts : List ℕ) → n < 12 → Counted n counts → Few counts
counted_few n counts h c = record { size = c.size; few = λ k. few k (dec_le 24 k) }
  where
    few : (k : ℕ) → Dec (24 ≤ k) → get_or counts k 0 ≤ 6 ^ 11
    few k (yes l) = rw (get_or-eq_default counts 0 {n = k} (omega (arith, c.size))) (omega arith)
    few k (no l) =
        let fewer : n ≤ 11 = omega arith in
        let most : 6 ^ n ≤ 6 ^ 11 = pow-le-pow_right (omega arith) fewer in
        omega (arith, c.each k (omega arith), ending_le n (list_at k))

-- ---- the numbers in a row

endings_at : (n : ℕ) (ls : List (List ℕ)) (k : ℕ) → k < length ls
    → get_or (map (ending n) ls) k 0 ≡ ending n (get_or ls k [])
endings_at n [] k h = absurd (omega arith)
endings_at n (l ∷ ls) zero h = refl
endings_at n (l ∷ ls) (suc k) h = endings_at n ls k (omega arith)

module _ (n : ℕ) where
  pub length_endings : length (all_endings n) ≡ 24
  unfolding all_endings
  length_endings = length-map all_lists (ending n) ∙ twenty_four

  pub ending_at : (k : ℕ) → k < 24 → get_or (all_endings n) k 0 ≡ ending n (list_at k)
  unfolding all_endings
  ending_at k h = endings_at n all_lists k (omega (arith, twenty_four))

  pub counted_all : (counts : List ℕ) → Counted n counts → counts ≡ all_endings n
  counted_all counts c =
      ext_get_or 0 counts (all_endings n) (c.size ∙ sym length_endings)
      (λ k h. let here : k < 24 = omega (arith, c.size) in c.each k here ∙ sym (ending_at k here))
