-- A letter changes the parity of a list, so no word ends in a list whose parity is not that of the length. At an even
-- length these are 12 of the 24 lists, and at an odd length the other 12.
use Prim.Native.Nat.{ℕ, zero, suc, ◌+◌, ◌%◌, ◌<◌}
use mathlib.Core.Path.{◌≡◌, refl, sym, ap, ◌∙◌}
use mathlib.Core.Bool.{Bool, true, false, cond, ◌||◌}
use mathlib.Core.List.{List, [], ◌∷◌}
use native.Mathlib.Numerals.{add-one}
use native.Mathlib.Omega.{arith}
use borrow.Author.Tests.{eqb-true, ne_eqb}
use lib.Dec.{ltb, eqb}
use lib.ListN.{get_or}
use Rattle.base.specs.Lists.{every, tally, values, values_from, equal}
use Rattle.base.proofs.ListLaws.{every_values}
use Rattle.word.specs.Strands.{swapped}
use Rattle.word_spread.specs.Spread.{four_labels, is_four, ending, list_at}
use Rattle.word_spread.proofs.SpreadLaws.{ending_is, no_letters, recurrence}
use Rattle.word_spread.proofs.ListsOfFour.{listed, at_listed, rank, rank_below, rank_at, list_four, four_long}
use Rattle.word_spread.proofs.ListsOfFour.{neighbour_below, neighbour_at}

-- how many pairs of labels of a list stand in falling order
unfoldable pub inversions : List ℕ → ℕ
inversions [] = 0
inversions (a ∷ l) = tally (λ b. ltb b a) l + inversions l

-- an exchange changes whether the number of inversions is even
turn_rule : ℕ → ℕ → Bool
turn_rule g k = eqb ((inversions (swapped g (get_or listed k [])) + inversions (get_or listed k [])) % 2) 1

turn_rules : every (λ g. every (turn_rule g) (values (λ k. k) 24)) (values (λ g. g) 3) ≡ true
unfolding turn_rule every values_from inversions tally swapped
turn_rules = refl

turns : (g k : ℕ) → g < 3 → k < 24 → (inversions (swapped g (list_at k)) + inversions (list_at k)) % 2 ≡ 1
unfolding turn_rule
turns g k i h =
    rw (at_listed k)
    (eqb-true _ _
    (every_values (turn_rule g) (λ k. k) 24
    (every_values (λ g. every (turn_rule g) (values (λ k. k) 24)) (λ g. g) 3 turn_rules g i) k h))

-- a list with an odd number of inversions is not the starting list
start_rule : ℕ → Bool
start_rule k =
    eqb (inversions (get_or listed k []) % 2) 0 || eqb (cond (equal four_labels (get_or listed k [])) 1 0) 0

start_rules : every start_rule (values (λ k. k) 24) ≡ true
unfolding start_rule every values_from inversions tally equal
start_rules = refl

or_right : {a b : Bool} → a ≡ false → a || b ≡ true → b ≡ true
or_right {a} {b} f e = sym (ap (λ (t : Bool). t || b) f) ∙ e

starts : (k : ℕ) → k < 24 → inversions (list_at k) % 2 ≡ 1 → ending 0 (list_at k) ≡ 0
unfolding start_rule
starts k h odd =
    let there : inversions (get_or listed k []) % 2 ≡ 1 = rw (at_listed k) at odd in
    ending_is 0 (list_at k)
    ∙ no_letters four_labels (list_at k)
    ∙ ap (λ (l : List ℕ). cond (equal four_labels l) 1 0) (at_listed k)
    ∙ eqb-true _ _ (or_right (ne_eqb _ _ (one_zero there)) (every_values start_rule (λ k. k) 24 start_rules k h))
  where
    one_zero : {m : ℕ} → m ≡ 1 → m ≡ 0 → ⊥
    one_zero e z = omega arith

-- no word ends in list k if its parity is not that of the length
none_at : (n k : ℕ) → k < 24 → (n + inversions (list_at k)) % 2 ≡ 1 → ending n (list_at k) ≡ 0
none_at zero k h odd = starts k h (omega arith)
none_at (suc n) k h odd =
    let to : (g : ℕ) → g < 3 → ending n (swapped g (list_at k)) ≡ 0 =
    λ g i. sym (ap (ending n) (neighbour_at g k i h))
    ∙ none_at n (rank (swapped g (list_at k))) (neighbour_below g k i h)
    (rw (neighbour_at g k i h) (omega (arith, turns g k i h))) in
    let law = rw (add-one n) at (recurrence n (list_at k) (four_long (list_at k) (list_four k h))) in
    omega (arith, law, to 0 (omega arith), to 1 (omega arith), to 2 (omega arith))

-- no word ends in a list whose parity is not that of the length
pub other_parity : (n : ℕ) (labels : List ℕ) → is_four labels ≡ true → (n + inversions labels) % 2 ≡ 1
    → ending n labels ≡ 0
other_parity n labels f odd =
    let at = rank_at labels f in
    sym (ap (ending n) at) ∙ none_at n (rank labels) (rank_below labels f) (rw at odd)
