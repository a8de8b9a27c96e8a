-- As many words end in a list as in its inverse list, which has the place of each label: the letters of a word in
-- reverse order lead there. So a program that counts for the inverse list gives the right number. The proof uses two
-- facts. Labels may be renamed in both lists. An exchange of two places of the first list is an exchange of two labels.
use Prim.Native.Nat.{ℕ, zero, suc, ◌+◌, ◌*◌, ◌<◌}
use mathlib.Core.Path.{◌≡◌, refl, sym, ap, ap₂, ◌∙◌}
use mathlib.Core.Bool.{Bool, true, cond, ◌&&◌}
use mathlib.Core.List.{List, [], ◌∷◌, map}
use native.Mathlib.Decide.{ℕ_discrete}
use native.Mathlib.Numerals.{add-one}
use native.Mathlib.Omega.{arith}
use borrow.Author.Tests.{eqb-true, eq-eqb, ne_eqb}
use lib.Dec.{eqb}
use lib.ListN.{get_or}
use Rattle.base.specs.Lists.{every, values, values_from, equal}
use Rattle.base.proofs.ListLaws.{every_values, equal_true}
use Rattle.word.specs.Strands.{swapped}
use Rattle.word_spread.specs.Spread.{four_labels, is_four, ending, list_at}
use Rattle.word_spread.proofs.SpreadLaws.{between, ending_is, no_letters, first_letter, recurrence}
use Rattle.word_spread.proofs.ListsOfFour.{listed, at_listed, rank, rank_below, rank_at, list_four, four_long}
use Rattle.word_spread.proofs.ListsOfFour.{neighbour_below, neighbour_at}

-- the first place of a label in a list
abbrev place_in : List ℕ → ℕ → ℕ
place_in [] a = 0
place_in (x ∷ l) a = cond (eqb x a) 0 (suc (place_in l a))

-- for each label its place
abbrev inverse_of : List ℕ → List ℕ
inverse_of labels = map (place_in labels) four_labels

-- ---- labels renamed

-- the labels g and g + 1 change names
renamed : ℕ → ℕ → ℕ
renamed g x = cond (eqb x g) (suc g) (cond (eqb x (suc g)) g x)

renamed_twice : (g x : ℕ) → renamed g (renamed g x) ≡ x
unfolding renamed
renamed_twice g x = go (ℕ_discrete x g) (ℕ_discrete x (suc g))
  where
    go : Dec (x ≡ g) → Dec (x ≡ suc g)
        → cond (eqb (cond (eqb x g) (suc g) (cond (eqb x (suc g)) g x)) g) (suc g)
        (cond (eqb (cond (eqb x g) (suc g) (cond (eqb x (suc g)) g x)) (suc g)) g
        (cond (eqb x g) (suc g) (cond (eqb x (suc g)) g x)))
        ≡ x
    go (yes e) d = rw (eq-eqb x g e, ne_eqb (suc g) g (λ z. omega arith), eq-eqb (suc g) (suc g) refl) (sym e)
    go (no n) (yes e) = rw (ne_eqb x g n, eq-eqb x (suc g) e, eq-eqb g g refl) (sym e)
    go (no n) (no m) = rw (ne_eqb x g n, ne_eqb x (suc g) m, ne_eqb x g n, ne_eqb x (suc g) m) refl

renamed_back : (g : ℕ) (l : List ℕ) → map (renamed g) (map (renamed g) l) ≡ l
renamed_back g [] = refl
renamed_back g (x ∷ l) = ap₂ (λ (y : ℕ) (m : List ℕ). y ∷ m) (renamed_twice g x) (renamed_back g l)

-- two labels, and two lists, are equal exactly if they are equal after renaming
renamed_eqb : (g x y : ℕ) → eqb (renamed g x) (renamed g y) ≡ eqb x y
renamed_eqb g x y = go (ℕ_discrete x y)
  where
    go : Dec (x ≡ y) → eqb (renamed g x) (renamed g y) ≡ eqb x y
    go (yes e) = eq-eqb (renamed g x) (renamed g y) (ap (renamed g) e) ∙ sym (eq-eqb x y e)
    go (no n) =
        ne_eqb (renamed g x) (renamed g y)
        (λ e. n (sym (renamed_twice g x) ∙ ap (renamed g) e ∙ renamed_twice g y))
        ∙ sym (ne_eqb x y n)

renamed_equal : (g : ℕ) (l m : List ℕ) → equal (map (renamed g) l) (map (renamed g) m) ≡ equal l m
unfolding equal
renamed_equal g [] [] = refl
renamed_equal g [] (y ∷ m) = refl
renamed_equal g (x ∷ l) [] = refl
renamed_equal g (x ∷ l) (y ∷ m) = ap₂ (λ (a b : Bool). a && b) (renamed_eqb g x y) (renamed_equal g l m)

-- renaming in both lists changes no number
module _ (g : ℕ) where
  abbrev to : ℕ → ℕ
  to x = renamed g x

  rename : (n a b c d : ℕ) (labels : List ℕ)
      → between n (to a ∷ to b ∷ to c ∷ to d ∷ []) (map to labels) ≡ between n (a ∷ b ∷ c ∷ d ∷ []) labels
  unfolding swapped
  rename zero a b c d labels =
      no_letters (to a ∷ to b ∷ to c ∷ to d ∷ []) (map to labels)
      ∙ ap (λ (t : Bool). cond t 1 0) (renamed_equal g (a ∷ b ∷ c ∷ d ∷ []) labels)
      ∙ sym (no_letters (a ∷ b ∷ c ∷ d ∷ []) labels)
  rename (suc n) a b c d labels =
      omega (
        arith,
        first_letter n (to a ∷ to b ∷ to c ∷ to d ∷ []) (map to labels),
        first_letter n (a ∷ b ∷ c ∷ d ∷ []) labels,
        rename n b a c d labels,
        rename n a c b d labels,
        rename n a b d c labels,
      )

-- ---- by the first letter, with the start unmoved

by_labels : (n : ℕ) (labels : List ℕ)
    → ending (suc n) labels
    ≡ 2 * (ending n (map (renamed 0) labels) + ending n (map (renamed 1) labels) + ending n (map (renamed 2) labels))
unfolding swapped values_from renamed
by_labels n labels =
    let moved : (g : ℕ) → between n (map (renamed g) four_labels) labels ≡ ending n (map (renamed g) labels) =
    λ g. ap (between n (map (renamed g) four_labels)) (sym (renamed_back g labels))
    ∙ rename g n 0 1 2 3 (map (renamed g) labels)
    ∙ sym (ending_is n (map (renamed g) labels)) in
    omega (arith, ending_is (suc n) labels, first_letter n four_labels labels, moved 0, moved 1, moved 2)

-- ---- the inverse list

-- an exchange of two places is an exchange of two labels of the inverse list
turn_rule : ℕ → ℕ → Bool
turn_rule g k = equal (inverse_of (swapped g (get_or listed k []))) (map (renamed g) (inverse_of (get_or listed k [])))

turn_rules : every (λ g. every (turn_rule g) (values (λ k. k) 24)) (values (λ g. g) 3) ≡ true
unfolding turn_rule every values_from renamed swapped equal
turn_rules = refl

turns : (g k : ℕ) → g < 3 → k < 24 → inverse_of (swapped g (list_at k)) ≡ map (renamed g) (inverse_of (list_at k))
unfolding turn_rule
turns g k i h =
    rw (at_listed k)
    (equal_true _ _
    (every_values (turn_rule g) (λ k. k) 24
    (every_values (λ g. every (turn_rule g) (values (λ k. k) 24)) (λ g. g) 3 turn_rules g i) k h))

start_rule : ℕ → Bool
start_rule k =
    eqb (cond (equal four_labels (inverse_of (get_or listed k []))) 1 0)
    (cond (equal four_labels (get_or listed k [])) 1 0)

start_rules : every start_rule (values (λ k. k) 24) ≡ true
unfolding start_rule every values_from equal
start_rules = refl

starts : (l : List ℕ) → ending 0 l ≡ cond (equal four_labels l) 1 0
starts l = ending_is 0 l ∙ no_letters four_labels l

inverse_at : (n k : ℕ) → k < 24 → ending n (inverse_of (list_at k)) ≡ ending n (list_at k)
unfolding start_rule
inverse_at zero k h =
    starts (inverse_of (list_at k))
    ∙ rw (at_listed k) (eqb-true _ _ (every_values start_rule (λ k. k) 24 start_rules k h))
    ∙ sym (starts (list_at k))
inverse_at (suc n) k h =
    let by : (g : ℕ) → g < 3 → ending n (map (renamed g) (inverse_of (list_at k))) ≡ ending n (swapped g (list_at k)) =
    λ g i. ap (ending n) (sym (turns g k i h) ∙ ap inverse_of (sym (neighbour_at g k i h)))
    ∙ inverse_at n (rank (swapped g (list_at k))) (neighbour_below g k i h)
    ∙ ap (ending n) (neighbour_at g k i h) in
    let law = rw (add-one n) at (recurrence n (list_at k) (four_long (list_at k) (list_four k h))) in
    omega (
      arith,
      law,
      by_labels n (inverse_of (list_at k)),
      by 0 (omega arith),
      by 1 (omega arith),
      by 2 (omega arith),
    )

inverse_alike : (n : ℕ) (labels : List ℕ) → is_four labels ≡ true → ending n (inverse_of labels) ≡ ending n labels
inverse_alike n labels f =
    rw (rank_at labels f) at (inverse_at n (rank labels) (rank_below labels f))
