-- A list of labels and its inverse list. If the list is 0 to 7, each once, the position of the label at place i is
-- i + 1, and the label at the position of a is a. If eight labels are below 8, and eight positions give each of them
-- its own place, then the list is 0 to 7, each once, and the positions are its inverse list: eight labels that differ
-- are all eight. An exchange of neighbours keeps each label once.
use Prim.Native.Nat.{ℕ, zero, suc, ◌+◌, ◌-◌, ◌<◌, ◌≤◌}
use mathlib.Core.Path.{◌≡◌, refl, sym, ap, ◌∙◌}
use mathlib.Core.Bool.{Bool, true, false, cond}
use mathlib.Core.List.{List, [], ◌∷◌}
use native.Mathlib.Decide.{ℕ_discrete, dec_le}
use native.Mathlib.Omega.{arith}
use borrow.Author.Tests.{eq-eqb, ne_eqb, eqb-true}
use lib.Dec.{eqb, ltb}
use lib.ListN.{length, get_or}
use Rattle.base.specs.Lists.{every, count, tally, values, equal, each_once}
use Rattle.base.proofs.ListLaws.{and_left, and_right, and_both, every_values, every_from, length_values, get_d_values}
use Rattle.base.proofs.ListLaws.{values_of, equal_true, equal_of}
use Rattle.base.proofs.DigitLaws.{all_below, below_all}
use Rattle.word.specs.Strands.{is_order, last_position, inverse_list, are_inverse, swapped}
use Rattle.word.proofs.StrandLaws.{swapped_below, count_swapped}

-- ---- the test of a list, taken apart and put together

module _ (labels : List ℕ) (order : is_order labels ≡ true) where
  pub order_below : (k : ℕ) → get_or labels k 0 < 8
  unfolding each_once
  order_below =
      all_below 8 labels (omega arith)
      (and_left (every (λ x. ltb x 8) labels) (every (λ a. eqb (count a labels) 1) (values (λ a. a) 8)) order)

  pub order_once : (a : ℕ) → a < 8 → count a labels ≡ 1
  unfolding each_once
  order_once a h =
      eqb-true (count a labels) 1
      (every_values (λ a. eqb (count a labels) 1) (λ a. a) 8 (and_right (every (λ x. ltb x 8) labels) _ order) a h)

order_is : (labels : List ℕ) → ((k : ℕ) → k < length labels → get_or labels k 0 < 8)
    → ((a : ℕ) → a < 8 → count a labels ≡ 1) → is_order labels ≡ true
unfolding each_once
order_is labels below once =
    and_both (below_all 8 labels below)
    (every_from (λ a. eqb (count a labels) 1) (values (λ a. a) 8)
    (λ k h.
    let b : k < 8 = omega (arith, length_values (λ a. a) 0 8) in
    ap (λ (a : ℕ). eqb (count a labels) 1) (get_d_values (λ a. a) 8 k b) ∙ eq-eqb (count k labels) 1 (once k b)))

-- ---- how often a label stands in a list, and where

-- a label that stands at two places is counted twice
twice : (a : ℕ) (l : List ℕ) (i j : ℕ) → i < j → j < length l → get_or l i 0 ≡ a → get_or l j 0 ≡ a → 2 ≤ count a l
unfolding tally
twice a [] i j h b d e = absurd (omega arith)
twice a (x ∷ l) i zero h b d e = absurd (omega arith)
twice a (x ∷ l) zero (suc j) h b d e =
    rw (eq-eqb x a d) (let one : 1 ≤ count a l = at_least a l j (omega arith) e in omega arith)
  where
    at_least : (a : ℕ) (l : List ℕ) (j : ℕ) → j < length l → get_or l j 0 ≡ a → 1 ≤ count a l
    at_least a [] j b e = absurd (omega arith)
    at_least a (x ∷ l) zero b e = rw (eq-eqb x a e) (omega arith)
    at_least a (x ∷ l) (suc j) b e = more (eqb x a) (at_least a l j (omega arith) e)
      where
        more : (t : Bool) → 1 ≤ count a l → 1 ≤ cond t (suc (count a l)) (count a l)
        more true h = omega arith
        more false h = h
twice a (x ∷ l) (suc i) (suc j) h b d e = more (eqb x a) (twice a l i j (omega arith) (omega arith) d e)
  where
    more : (t : Bool) → 2 ≤ count a l → 2 ≤ cond t (suc (count a l)) (count a l)
    more true h = omega arith
    more false h = h

-- a place where a label stands that is counted
record Stands (a : ℕ) (l : List ℕ) : Type 0 where
  place : ℕ
  within : place < length l
  there : get_or l place 0 ≡ a

stands : (a : ℕ) (l : List ℕ) → 1 ≤ count a l → Stands a l
unfolding tally
stands a [] h = absurd (omega arith)
stands a (x ∷ l) h = go (eqb x a) refl h (stands a l)
  where
    go : (t : Bool) → eqb x a ≡ t → 1 ≤ cond t (suc (count a l)) (count a l) → (1 ≤ count a l → Stands a l)
        → Stands a (x ∷ l)
    go true e h rest = record { place = 0; within = omega arith; there = eqb-true x a e }
    go false e h rest =
        let r : Stands a l = rest h in
        record { place = suc r.place; within = omega (arith, r.within); there = r.there }

-- a label that stands at no two places is counted at most once
apart : (a : ℕ) (l : List ℕ) → ((i j : ℕ) → i < j → j < length l → get_or l i 0 ≡ a → get_or l j 0 ≡ a → ⊥)
    → count a l ≤ 1
unfolding tally
apart a [] differ = omega arith
apart a (x ∷ l) differ =
    go (eqb x a) refl (apart a l (λ i j h b d e. differ (suc i) (suc j) (omega arith) (omega arith) d e))
  where
    go : (t : Bool) → eqb x a ≡ t → count a l ≤ 1 → cond t (suc (count a l)) (count a l) ≤ 1
    go true e h = none (dec_le 1 (count a l))
      where
        none : Dec (1 ≤ count a l) → suc (count a l) ≤ 1
        none (yes b) =
            let s : Stands a l = stands a l b in
            absurd (differ 0 (suc s.place) (omega arith) (omega (arith, s.within)) (eqb-true x a e) s.there)
        none (no b) = omega arith
    go false e h = h

-- ---- all labels together

-- f 0 + .. + f (n - 1)
total : (ℕ → ℕ) → ℕ → ℕ
total f zero = 0
total f (suc n) = f n + total f n

total_same : (f : ℕ → ℕ) (x n : ℕ) → n ≤ x → total (λ a. cond (eqb x a) (suc (f a)) (f a)) n ≡ total f n
unfolding total
total_same f x zero h = refl
total_same f x (suc n) h =
    let e : cond (eqb x n) (suc (f n)) (f n) ≡ f n = rw (ne_eqb x n (λ d. omega arith)) in
    let r : total (λ a. cond (eqb x a) (suc (f a)) (f a)) n ≡ total f n = total_same f x n (omega arith) in
    omega arith

total_more : (f : ℕ → ℕ) (x n : ℕ) → x < n → total (λ a. cond (eqb x a) (suc (f a)) (f a)) n ≡ suc (total f n)
unfolding total
total_more f x zero h = absurd (omega arith)
total_more f x (suc n) h = go (ℕ_discrete x n) (total_more f x n)
  where
    go : Dec (x ≡ n) → (x < n → total (λ a. cond (eqb x a) (suc (f a)) (f a)) n ≡ suc (total f n))
        → total (λ a. cond (eqb x a) (suc (f a)) (f a)) (suc n) ≡ suc (total f (suc n))
    go (yes d) below =
        let e : cond (eqb x n) (suc (f n)) (f n) ≡ suc (f n) = rw (eq-eqb x n d) in
        let r : total (λ a. cond (eqb x a) (suc (f a)) (f a)) n ≡ total f n = total_same f x n (omega arith) in
        omega arith
    go (no d) below =
        let e : cond (eqb x n) (suc (f n)) (f n) ≡ f n = rw (ne_eqb x n d) in
        let r : total (λ a. cond (eqb x a) (suc (f a)) (f a)) n ≡ suc (total f n) = below (omega arith) in
        omega arith

total_none : (n : ℕ) → total (λ a. 0) n ≡ 0
unfolding total
total_none zero = refl
total_none (suc n) = let rest : total (λ a. 0) n ≡ 0 = total_none n in omega arith

-- the counts of all labels add up to the length of the list
total_count : (n : ℕ) (l : List ℕ) → ((k : ℕ) → k < length l → get_or l k 0 < n) → total (λ a. count a l) n ≡ length l
unfolding tally
total_count n [] below = total_none n
total_count n (x ∷ l) below =
    total_more (λ a. count a l) x n (below 0 (omega arith))
    ∙ ap suc (total_count n l (λ k h. below (suc k) (omega arith)))

at_most : (f : ℕ → ℕ) (n : ℕ) → ((a : ℕ) → a < n → f a ≤ 1) → total f n ≤ n
unfolding total
at_most f zero small = omega arith
at_most f (suc n) small =
    let last : f n ≤ 1 = small n (omega arith) in
    let rest : total f n ≤ n = at_most f n (λ a h. small a (omega arith)) in
    omega arith

-- n numbers of at most 1 whose sum is n are 1 each
all_ones : (f : ℕ → ℕ) (n : ℕ) → ((a : ℕ) → a < n → f a ≤ 1) → total f n ≡ n → (a : ℕ) → a < n → f a ≡ 1
unfolding total
all_ones f zero small e a h = absurd (omega arith)
all_ones f (suc n) small e a h =
    let last : f n ≤ 1 = small n (omega arith) in
    let before : (b : ℕ) → b < n → f b ≤ 1 = λ b h. small b (omega arith) in
    let rest : total f n ≤ n = at_most f n before in
    go (ℕ_discrete a n) (omega arith) (all_ones f n before (omega arith) a)
  where
    go : Dec (a ≡ n) → f n ≡ 1 → (a < n → f a ≡ 1) → f a ≡ 1
    go (yes d) one below = ap f d ∙ one
    go (no d) one below = below (omega arith)

-- ---- the position of a label

-- a label that stands at place i has a position: it is past place i, within the first n, and the label stands there
record Position (labels : List ℕ) (a n i : ℕ) : Type 0 where
  past : i < last_position labels a n
  within : last_position labels a n ≤ n
  there : get_or labels (last_position labels a n - 1) 0 ≡ a

position : (labels : List ℕ) (a n i : ℕ) → i < n → get_or labels i 0 ≡ a → Position labels a n i
unfolding last_position
position labels a zero i h e = absurd (omega arith)
position labels a (suc n) i h e = go (ℕ_discrete (get_or labels n 0) a) (λ b. position labels a n i b e)
  where
    go : Dec (get_or labels n 0 ≡ a) → (i < n → Position labels a n i) → Position labels a (suc n) i
    go (yes d) before =
        let p : last_position labels a (suc n) ≡ suc n = rw (eq-eqb (get_or labels n 0) a d) in
        let q : suc n - 1 ≡ n = omega arith in
        record {
          past = omega (arith, p);
          within = omega (arith, p);
          there = rw p (rw q d);
        }
    go (no d) before =
        let p : last_position labels a (suc n) ≡ last_position labels a n = rw (ne_eqb (get_or labels n 0) a d) in
        let other : i ≡ n → ⊥ = λ s. d (ap (λ (k : ℕ). get_or labels k 0) (sym s) ∙ e) in
        let r : Position labels a n i = before (omega arith) in
        record {
          past = omega (arith, p, r.past);
          within = omega (arith, p, r.within);
          there = rw p r.there;
        }

module _ (labels : List ℕ) (size : length labels ≡ 8) where
  -- if no label stands there twice, the position of the label at place i is i + 1
  position_of_lem : ((a : ℕ) → a < 8 → count a labels ≤ 1) → (i : ℕ) → i < 8 → get_or labels i 0 < 8
      → last_position labels (get_or labels i 0) 8 ≡ i + 1
  position_of_lem small i h b =
      go (ℕ_discrete (last_position labels (get_or labels i 0) 8) (i + 1))
      (position labels (get_or labels i 0) 8 i h refl)
    where
      go : Dec (last_position labels (get_or labels i 0) 8 ≡ i + 1) → Position labels (get_or labels i 0) 8 i
          → last_position labels (get_or labels i 0) 8 ≡ i + 1
      go (yes e) p = e
      go (no n) p =
          let two : 2 ≤ count (get_or labels i 0) labels =
          twice (get_or labels i 0) labels i (last_position labels (get_or labels i 0) 8 - 1)
          (omega (arith, p.past)) (omega (arith, p.past, p.within, size)) refl p.there in
          absurd (omega (arith, small (get_or labels i 0) b))

-- ---- two lists that are inverse to each other

module _ (labels positions : List ℕ) (size : length labels ≡ 8) (inverse : are_inverse labels positions ≡ true) where
  pub inverse_order : is_order labels ≡ true
  inverse_order = and_left (is_order labels) (equal positions (inverse_list labels)) inverse

  pub inverse_is : positions ≡ inverse_list labels
  inverse_is =
      equal_true positions (inverse_list labels)
      (and_right (is_order labels) (equal positions (inverse_list labels)) inverse)

  position_at : (a : ℕ) → a < 8 → get_or positions a 0 ≡ last_position labels a 8
  unfolding inverse_list
  position_at a h =
      ap (λ (l : List ℕ). get_or l a 0) inverse_is ∙ get_d_values (λ a. last_position labels a 8) 8 a h

  -- the position of the label at place i is i + 1
  pub position_there : (i : ℕ) → i < 8 → get_or positions (get_or labels i 0) 0 ≡ i + 1
  position_there i h =
      let below : get_or labels i 0 < 8 = order_below labels inverse_order i in
      position_at (get_or labels i 0) below
      ∙ position_of_lem labels size (λ a h. omega (arith, order_once labels inverse_order a h)) i h below

  -- label a has a position from 1 to 8, and stands there
  label_place : (a : ℕ) → a < 8 → Stands a labels
  label_place a h = stands a labels (omega (arith, order_once labels inverse_order a h))

  pub position_within : (a : ℕ) → a < 8 → (1 ≤ get_or positions a 0) × (get_or positions a 0 ≤ 8)
  position_within a h =
      let s = label_place a h in
      let p = position labels a 8 s.place (omega (arith, s.within)) s.there in
      (omega (arith, p.past, position_at a h), omega (arith, p.within, position_at a h))

  pub label_there : (a : ℕ) → a < 8 → get_or labels (get_or positions a 0 - 1) 0 ≡ a
  label_there a h =
      let s = label_place a h in
      let p = position labels a 8 s.place (omega (arith, s.within)) s.there in
      ap (λ (k : ℕ). get_or labels (k - 1) 0) (position_at a h) ∙ p.there

-- The test place by place is enough: each label is below 8, and its position is the place where it stands.
pub inverse_by_places : (labels positions : List ℕ) → length labels ≡ 8 → length positions ≡ 8
    → ((i : ℕ) → i < 8 → (get_or labels i 0 < 8) × (get_or positions (get_or labels i 0) 0 ≡ i + 1))
    → are_inverse labels positions ≡ true
unfolding inverse_list
inverse_by_places labels positions size size' each =
    and_both (order_is labels (λ k h. (each k (omega arith)).0) ones)
    (equal_of (values_of (λ a. last_position labels a 8) 8 positions size' same))
  where
    small : (a : ℕ) → a < 8 → count a labels ≤ 1
    small a h =
        apart a labels
        (λ i j l b d e.
        let first : get_or positions a 0 ≡ i + 1 =
        ap (λ (x : ℕ). get_or positions x 0) (sym d) ∙ (each i (omega arith)).1 in
        let second : get_or positions a 0 ≡ j + 1 =
        ap (λ (x : ℕ). get_or positions x 0) (sym e) ∙ (each j (omega arith)).1 in
        omega arith)

    ones : (a : ℕ) → a < 8 → count a labels ≡ 1
    ones =
        all_ones (λ a. count a labels) 8 small
        (total_count 8 labels (λ k h. (each k (omega arith)).0) ∙ size)

    same : (a : ℕ) → a < 8 → get_or positions a 0 ≡ last_position labels a 8
    same a h =
        let s = stands a labels (omega (arith, ones a h)) in
        let i = s.place in
        let b : i < 8 = omega (arith, s.within) in
        ap (λ (x : ℕ). get_or positions x 0) (sym s.there)
        ∙ (each i b).1
        ∙ sym (position_of_lem labels size small i b (each i b).0)
        ∙ ap (λ (x : ℕ). last_position labels x 8) s.there

-- a list of 0 to 7, each once, and its inverse list are inverse to each other
pub order_inverse : (labels : List ℕ) → is_order labels ≡ true → are_inverse labels (inverse_list labels) ≡ true
order_inverse labels order = and_both order (equal_of refl)

-- ---- an exchange keeps each label once

pub order_swapped : (g : ℕ) (labels : List ℕ) → g + 1 < length labels → is_order labels ≡ true
    → is_order (swapped g labels) ≡ true
order_swapped g labels h order =
    order_is (swapped g labels) (λ k b. swapped_below g labels (order_below labels order) k)
    (λ a b. count_swapped a g labels h ∙ order_once labels order a b)
