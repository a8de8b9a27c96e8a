-- The 24 lists of four labels: listed, each once, increasing, and no others; the place of a list among them; and the
-- places of its three neighbours.
use Prim.Native.Nat.{ℕ, suc, ◌<◌}
use mathlib.Core.Path.{◌≡◌, refl, sym, ap, subst, ◌∙◌}
use mathlib.Core.Bool.{Bool, true, false, not, ◌&&◌, ◌||◌, beq, false≢true}
use mathlib.Core.List.{List, [], ◌∷◌}
use native.Mathlib.Omega.{arith}
use borrow.Author.Tests.{eqb-true, ltb-true, eq-eqb, ne_eqb}
use lib.Dec.{ltb, eqb}
use lib.ListN.{length, get_or}
use Rattle.base.specs.Digits.{value}
use Rattle.base.specs.Lists.{every, tally, values, values_from, equal, each_once}
use Rattle.base.proofs.ListLaws.{and_left, and_right, and_both, every_get_d, every_values, equal_true, beq_true}
use Rattle.base.proofs.ListLaws.{not_true_false, true_false}
use Rattle.word.specs.Strands.{swapped}
use Rattle.word_spread.specs.Spread.{each_in_front, rows_of, those, is_four, all_lists, list_at}
use Rattle.word_spread.specs.steps.Counting.{all_small, all_differ, smaller, place_of}

-- ---- the lists

abbrev pub listed : List (List ℕ)
listed =
    (0 ∷ 1 ∷ 2 ∷ 3 ∷ []) ∷ (0 ∷ 1 ∷ 3 ∷ 2 ∷ []) ∷ (0 ∷ 2 ∷ 1 ∷ 3 ∷ []) ∷ (0 ∷ 2 ∷ 3 ∷ 1 ∷ [])
    ∷ (0 ∷ 3 ∷ 1 ∷ 2 ∷ []) ∷ (0 ∷ 3 ∷ 2 ∷ 1 ∷ []) ∷ (1 ∷ 0 ∷ 2 ∷ 3 ∷ []) ∷ (1 ∷ 0 ∷ 3 ∷ 2 ∷ [])
    ∷ (1 ∷ 2 ∷ 0 ∷ 3 ∷ []) ∷ (1 ∷ 2 ∷ 3 ∷ 0 ∷ []) ∷ (1 ∷ 3 ∷ 0 ∷ 2 ∷ []) ∷ (1 ∷ 3 ∷ 2 ∷ 0 ∷ [])
    ∷ (2 ∷ 0 ∷ 1 ∷ 3 ∷ []) ∷ (2 ∷ 0 ∷ 3 ∷ 1 ∷ []) ∷ (2 ∷ 1 ∷ 0 ∷ 3 ∷ []) ∷ (2 ∷ 1 ∷ 3 ∷ 0 ∷ [])
    ∷ (2 ∷ 3 ∷ 0 ∷ 1 ∷ []) ∷ (2 ∷ 3 ∷ 1 ∷ 0 ∷ []) ∷ (3 ∷ 0 ∷ 1 ∷ 2 ∷ []) ∷ (3 ∷ 0 ∷ 2 ∷ 1 ∷ [])
    ∷ (3 ∷ 1 ∷ 0 ∷ 2 ∷ []) ∷ (3 ∷ 1 ∷ 2 ∷ 0 ∷ []) ∷ (3 ∷ 2 ∷ 0 ∷ 1 ∷ []) ∷ (3 ∷ 2 ∷ 1 ∷ 0 ∷ [])
    ∷ []

pub lists_listed : all_lists ≡ listed
unfolding all_lists those rows_of each_in_front values_from each_once every tally
lists_listed = refl

pub twenty_four : length all_lists ≡ 24
twenty_four = ap length lists_listed

pub at_listed : (k : ℕ) → list_at k ≡ get_or listed k []
at_listed k = ap (λ (ls : List (List ℕ)). get_or ls k []) lists_listed

-- each list, read as a number, is smaller than the next
increasing_rule : ℕ → Bool
increasing_rule k = ltb (value 10 (get_or listed k [])) (value 10 (get_or listed (suc k) []))

increasing_rules : every increasing_rule (values (λ k. k) 23) ≡ true
unfolding increasing_rule every values_from value
increasing_rules = refl

lists_increase : (k : ℕ) → k < 23 → value 10 (list_at k) < value 10 (list_at (suc k))
unfolding increasing_rule
lists_increase k h =
    rw (at_listed k, at_listed (suc k)) (ltb-true _ _ (every_values increasing_rule (λ k. k) 23 increasing_rules k h))

-- ---- a list of four labels

-- four labels one by one
pub labels_are : (labels : List ℕ) → length labels ≡ 4
    → labels ≡ get_or labels 0 0 ∷ get_or labels 1 0 ∷ get_or labels 2 0 ∷ get_or labels 3 0 ∷ []
labels_are [] e = absurd (omega arith)
labels_are (a ∷ []) e = absurd (omega arith)
labels_are (a ∷ b ∷ []) e = absurd (omega arith)
labels_are (a ∷ b ∷ c ∷ []) e = absurd (omega arith)
labels_are (a ∷ b ∷ c ∷ d ∷ []) e = refl
labels_are (a ∷ b ∷ c ∷ d ∷ x ∷ l) e = absurd (omega arith)

-- a test of all four labels below 4
every_four : (ℕ → ℕ → ℕ → ℕ → Bool) → Bool
every_four t =
    every (λ a. every (λ b. every (λ c. every (λ d. t a b c d) (values (λ d. d) 4)) (values (λ c. c) 4))
    (values (λ b. b) 4)) (values (λ a. a) 4)

of_four : (t : ℕ → ℕ → ℕ → ℕ → Bool) → every_four t ≡ true → (a b c d : ℕ) → all_small a b c d ≡ true → t a b c d ≡ true
unfolding every_four
of_four t e a b c d small =
    let abc = and_left (ltb a 4 && ltb b 4 && ltb c 4) (ltb d 4) small in
    let ab = and_left (ltb a 4 && ltb b 4) (ltb c 4) abc in
    every_values (λ d. t a b c d) (λ d. d) 4
    (every_values (λ c. every (λ d. t a b c d) (values (λ d. d) 4)) (λ c. c) 4
    (every_values (λ b. every (λ c. every (λ d. t a b c d) (values (λ d. d) 4)) (values (λ c. c) 4)) (λ b. b) 4
    (every_values (λ a. every (λ b. every (λ c. every (λ d. t a b c d) (values (λ d. d) 4)) (values (λ c. c) 4))
    (values (λ b. b) 4)) (λ a. a) 4 e a (ltb-true a 4 (and_left (ltb a 4) (ltb b 4) ab)))
    b (ltb-true b 4 (and_right (ltb a 4) (ltb b 4) ab)))
    c (ltb-true c 4 (and_right (ltb a 4 && ltb b 4) (ltb c 4) abc)))
    d (ltb-true d 4 (and_right (ltb a 4 && ltb b 4 && ltb c 4) (ltb d 4) small))

-- four labels below 4 stand once each exactly if no two are equal
once_rule : ℕ → ℕ → ℕ → ℕ → Bool
once_rule a b c d = beq (each_once 4 (a ∷ b ∷ c ∷ d ∷ [])) (all_differ a b c d)

once_rules : every_four once_rule ≡ true
unfolding every_four once_rule every values_from each_once tally
once_rules = refl

-- a list of 0 to 3, each once, stands at its place among the 24
place_rule : ℕ → ℕ → ℕ → ℕ → Bool
place_rule a b c d =
    not (each_once 4 (a ∷ b ∷ c ∷ d ∷ []))
    || (ltb (place_of a b c d) 24 && equal (get_or listed (place_of a b c d) []) (a ∷ b ∷ c ∷ d ∷ []))

place_rules : every_four place_rule ≡ true
unfolding every_four place_rule every values_from each_once tally equal smaller
place_rules = refl

-- ---- the test, and the place

module _ (labels : List ℕ) (e : length labels ≡ 4) where
  abbrev label : ℕ → ℕ
  label k = get_or labels k 0

  abbrev small : Bool
  small = all_small (label 0) (label 1) (label 2) (label 3)

  -- a list of four has labels below 4
  four_small : each_once 4 labels ≡ true → small ≡ true
  unfolding each_once
  four_small t =
      let below : (k : ℕ) → k < 4 → ltb (label k) 4 ≡ true =
      λ k h. every_get_d (λ x. ltb x 4) labels (and_left _ _ t) k (omega arith) in
      and_both (and_both (and_both (below 0 (omega arith)) (below 1 (omega arith))) (below 2 (omega arith)))
      (below 3 (omega arith))

  pub not_small : small ≡ false → is_four labels ≡ false
  not_small f =
      rw (eq-eqb (length labels) 4 e)
      (not_true_false (each_once 4 labels) (λ t. true_false small (four_small t) f))

  pub small_four : small ≡ true → is_four labels ≡ all_differ (label 0) (label 1) (label 2) (label 3)
  unfolding once_rule
  small_four t =
      rw (eq-eqb (length labels) 4 e)
      (ap (each_once 4) (labels_are labels e)
      ∙ beq_true _ _ (of_four once_rule once_rules (label 0) (label 1) (label 2) (label 3) t))

-- a list of the wrong length
pub not_four : (labels : List ℕ) → (length labels ≡ 4 → ⊥) → is_four labels ≡ false
not_four labels h = ap (λ (b : Bool). b && each_once 4 labels) (ne_eqb (length labels) 4 h)

-- the place of a list
abbrev pub rank : List ℕ → ℕ
rank l = place_of (get_or l 0 0) (get_or l 1 0) (get_or l 2 0) (get_or l 3 0)

module _ (labels : List ℕ) (f : is_four labels ≡ true) where
  pub four_long : length labels ≡ 4
  four_long = eqb-true (length labels) 4 (and_left (eqb (length labels) 4) (each_once 4 labels) f)

  once : each_once 4 labels ≡ true
  once = and_right (eqb (length labels) 4) (each_once 4 labels) f

  placed : ltb (rank labels) 24 && equal (get_or listed (rank labels) []) labels ≡ true
  unfolding place_rule
  placed =
      let are = labels_are labels four_long in
      let rule = of_four place_rule place_rules (get_or labels 0 0) (get_or labels 1 0) (get_or labels 2 0)
      (get_or labels 3 0)
      (four_small labels four_long once) in
      go (each_once 4 labels) once
      (subst
      (λ (l : List ℕ). not (each_once 4 l) || (ltb (rank labels) 24 && equal (get_or listed (rank labels) []) l) ≡ true)
      (sym are) rule)
    where
      go : {r : Bool} (b : Bool) → b ≡ true → not b || r ≡ true → r ≡ true
      go true e h = h
      go false e h = absurd (false≢true e)

  -- each list of four labels 0 to 3, each once, is among the 24
  pub rank_below : rank labels < 24
  rank_below = ltb-true _ _ (and_left _ _ placed)

  pub rank_at : list_at (rank labels) ≡ labels
  rank_at = at_listed (rank labels) ∙ equal_true _ _ (and_right (ltb (rank labels) 24) _ placed)

-- ---- the 24 are such lists, and no two of them are alike

four_rule : ℕ → Bool
four_rule k = is_four (get_or listed k []) && eqb (rank (get_or listed k [])) k

four_rules : every four_rule (values (λ k. k) 24) ≡ true
unfolding four_rule every values_from each_once tally smaller
four_rules = refl

module _ (k : ℕ) (h : k < 24) where
  four_rule_lem : four_rule k ≡ true
  four_rule_lem = every_values four_rule (λ k. k) 24 four_rules k h

  pub list_four : is_four (list_at k) ≡ true
  unfolding four_rule
  list_four = rw (at_listed k) (and_left _ _ four_rule_lem)

  list_ranked : rank (list_at k) ≡ k
  unfolding four_rule
  list_ranked = rw (at_listed k) (eqb-true _ _ (and_right (is_four (get_or listed k [])) _ four_rule_lem))

lists_differ : (j k : ℕ) → j < 24 → k < 24 → list_at j ≡ list_at k → j ≡ k
lists_differ j k h l e = sym (list_ranked j h) ∙ ap rank e ∙ list_ranked k l

-- ---- the neighbours of a list

-- an exchange of a list's labels gives a list of the 24
turn_rule : ℕ → ℕ → Bool
turn_rule g k = is_four (swapped g (get_or listed k []))

turn_rules : every (λ g. every (turn_rule g) (values (λ k. k) 24)) (values (λ g. g) 3) ≡ true
unfolding turn_rule every values_from each_once tally swapped
turn_rules = refl

module _ (g k : ℕ) (i : g < 3) (h : k < 24) where
  turned_four : is_four (swapped g (list_at k)) ≡ true
  unfolding turn_rule
  turned_four =
      rw (at_listed k)
      (every_values (turn_rule g) (λ k. k) 24
      (every_values (λ g. every (turn_rule g) (values (λ k. k) 24)) (λ g. g) 3 turn_rules g i) k h)

  pub neighbour_below : rank (swapped g (list_at k)) < 24
  neighbour_below = rank_below (swapped g (list_at k)) turned_four

  pub neighbour_at : list_at (rank (swapped g (list_at k))) ≡ swapped g (list_at k)
  neighbour_at = rank_at (swapped g (list_at k)) turned_four

-- ---- the labels of a list, one by one

module _ (k : ℕ) (h : k < 24) where
  long : length (list_at k) ≡ 4
  long = four_long (list_at k) (list_four k h)

  pub label_below : (j : ℕ) → j < 4 → get_or (list_at k) j 0 < 4
  unfolding each_once
  label_below j i =
      ltb-true _ _
      (every_get_d (λ x. ltb x 4) (list_at k) (and_left _ _ (once (list_at k) (list_four k h))) j (omega (arith, long)))
