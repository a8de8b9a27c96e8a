-- What holds of any function that meets the contract of the exported operation: its numbers for the 24 lists together
-- are 6 to the power of the length, it gives 12 for the unmoved list and length 2, and 0 for a list of the other
-- parity.
use Prim.Native.Nat.{ℕ, ◌+◌, ◌%◌, ◌^◌, ◌≤◌}
use mathlib.Core.Path.{◌≡◌, refl, ap₂, ◌∙◌}
use mathlib.Core.Bool.{Bool, true, ◌&&◌}
use mathlib.Core.List.{List, [], ◌∷◌, map}
use native.Mathlib.Omega.{arith}
use Rattle.base.specs.Lists.{every, tally, values_from, equal, each_once}
use Rattle.base.proofs.ListLaws.{and_left, and_right}
use Rattle.base.proofs.QuestionLaws.{granted_zero}
use Rattle.word.specs.Strands.{swapped, list_after}
use Rattle.word_spread.specs.Spread.{each_in_front, rows_of, those, words_between, four_labels, is_four, all_lists}
use Rattle.word_spread.specs.Spread.{ending, total, all_endings, Ends}
use Rattle.word_spread.specs.declared.Count.{Count}
use Rattle.word_spread.proofs.ListsOfFour.{lists_listed}
use Rattle.word_spread.proofs.SpreadAnswer.{passed_35}
use Rattle.word_spread.proofs.AllTogether.{endings_together}
use Rattle.word_spread.proofs.Parity.{inversions, other_parity}

abbrev pub Operation : Type 0
Operation = (n : ℕ) (labels : List ℕ) → Count

abbrev pub Meets : Operation → Type 0
Meets f = (n : ℕ) (labels : List ℕ) → Ends n labels (f n labels).answer (f n labels).words

-- ---- the 24 lists pass

every_four : List (List ℕ) → Bool
every_four [] = true
every_four (l ∷ ls) = is_four l && every_four ls

lists_pass : every_four all_lists ≡ true
unfolding every_four each_once every tally values_from
lists_pass = rw lists_listed refl

total_alike : (f g : List ℕ → ℕ) → ((l : List ℕ) → is_four l ≡ true → f l ≡ g l) → (ls : List (List ℕ))
    → every_four ls ≡ true
    → total (map f ls) ≡ total (map g ls)
unfolding total every_four
total_alike f g e [] t = refl
total_alike f g e (l ∷ ls) t =
    ap₂ (λ (m n : ℕ). m + n) (e l (and_left (is_four l) (every_four ls) t))
    (total_alike f g e ls (and_right (is_four l) (every_four ls) t))

-- ---- the paper's number

-- of the 36 words of two letters, 12 bring the list back
pub two_unmoved : ending 2 four_labels ≡ 12
unfolding ending words_between those rows_of each_in_front list_after swapped values_from equal
two_unmoved = refl

-- ---- any operation

module _ (f : Operation) (meets : Meets f) where
  module _ (n : ℕ) (h : n ≤ 12) (labels : List ℕ) (four : is_four labels ≡ true) where
    answers : (f n labels).answer ≡ 0
    answers = (meets n labels).answer_is ∙ passed_35 n labels h four

    -- the operation gives the number of words that end in the list
    pub counts : (f n labels).words ≡ ending n labels
    counts = (meets n labels).words_is ∙ granted_zero (ending n labels) 0 (passed_35 n labels h four)

    no_other_parity : (n + inversions labels) % 2 ≡ 1 → (f n labels).words ≡ 0
    no_other_parity odd = counts ∙ other_parity n labels four odd

  -- the numbers of the 24 lists together
  pub calls_together : (n : ℕ) → n ≤ 12 → total (map (λ l. (f n l).words) all_lists) ≡ 6 ^ n
  unfolding all_endings
  calls_together n h =
      total_alike (λ l. (f n l).words) (ending n) (λ l four. counts n h l four) all_lists lists_pass
      ∙ endings_together n

  pub twelve : f 2 (0 ∷ 1 ∷ 2 ∷ 3 ∷ []) ≡ record { answer = 0; words = 12 }
  unfolding each_once every tally values_from
  twelve =
      let a = answers 2 (omega arith) (0 ∷ 1 ∷ 2 ∷ 3 ∷ []) refl in
      let w = counts 2 (omega arith) (0 ∷ 1 ∷ 2 ∷ 3 ∷ []) refl ∙ two_unmoved in
      λ i. record { answer = a i; words = w i }
