-- A word counted in two halves. From a list of 0 to 7, each once, a word swaps the labels at two places exactly where
-- it swaps these places from the starting list. So the tables of both halves give the number of the whole word.
use Prim.Native.Nat.{ℕ, ◌+◌, ◌-◌, ◌≤◌, ◌<◌}
use mathlib.Core.Path.{◌≡◌, refl, sym, ap, ap₂, ◌∙◌}
use mathlib.Core.Bool.{Bool, true, cond, ◌&&◌}
use mathlib.Core.List.{List, [], ◌∷◌}
use native.Mathlib.Decide.{ℕ_discrete, dec_le}
use native.Mathlib.Numerals.{add-one}
use native.Mathlib.Omega.{arith}
use borrow.Author.Tests.{eq-eqb, ne_eqb, eqb-true, lt-ltb}
use lib.Dec.{eqb}
use lib.IntN.{ℤ, pos, ◌-ℤ◌}
use lib.ListN.{length, get_or, take, drop, replicate, take-append-drop, length-drop}
use lib.Seq.{length-take-le, get_or-take, get_or-drop, drop-cons, drop-length}
use Rattle.std.specs.List.{position, position_or_len}
use Rattle.std.specs.Prelude.{Some}
use Rattle.std.proofs.lemmas.List.Sums.{passes_at_first, fails_before_first}
use Rattle.base.specs.Lists.{every, tally, values_from, each_once}
use Rattle.base.proofs.ListLaws.{tally_append, every_append, every_take, every_get_d, and_left, and_right, get_d_values}
use Rattle.base.proofs.ListLaws.{true_false}
use Rattle.word.specs.Letters.{is_letter, is_positive, is_inverse, generator}
use Rattle.word.specs.Exponent.{exponent_sum}
use Rattle.word.specs.Strands.{strands_in_order, is_order, inverse_list, swapped, list_after}
use Rattle.word.proofs.LetterLaws.{Lettered, lettered_cons, generator_below}
use Rattle.word.proofs.StrandLaws.{length_swapped, swapped_first, swapped_second, swapped_other, length_after}
use Rattle.word.proofs.PositionLaws.{position_there, position_within, label_there, order_inverse, order_swapped}
use Rattle.word_crossing.specs.Crossings.{both, swaps, swapping, crossings_from, crossings}
use Rattle.word_crossing.specs.steps.Counting.{OneCounted, Labelled, Table, Counts}
use Rattle.word_crossing.specs.steps.Halves.{Walks, Ready, FoundOf}
use Rattle.word_crossing.proofs.CrossingLaws.{swapping_append}
use Rattle.word_crossing.proofs.CountLaws.{order_labelled, labelled_next, generators_are, inverses_are}
use Rattle.word_crossing.proofs.CountLaws.{none_counted, Walking, walking_table, walked_on, walked}

-- ---- the list that a word leaves

order_after : (labels w : List ℕ) → length labels ≡ 8 → Lettered w → is_order labels ≡ true
    → is_order (list_after labels w) ≡ true
unfolding list_after
order_after labels [] l e o = o
order_after labels (c ∷ w) l e o =
    let h = lettered_cons c w e in
    order_after (swapped (generator c) labels) w (length_swapped (generator c) labels ∙ l) h.1
    (order_swapped (generator c) labels (omega (arith, generator_below c h.0, l)) o)

order_first : is_order strands_in_order ≡ true
unfolding each_once every tally values_from
order_first = refl

-- ---- a list of 0 to 7, each once

module _ (names : List ℕ) (size : length names ≡ 8) (order : is_order names ≡ true) where
  -- labels at two places differ
  apart : (i j : ℕ) → i < 8 → j < 8 → get_or names i 0 ≡ get_or names j 0 → i ≡ j
  apart i j b d e =
      let there = position_there names (inverse_list names) size (order_inverse names order) in
      let same = ap (λ (a : ℕ). get_or (inverse_list names) a 0) e in
      omega (arith, same, there i b, there j d)

  -- each label is found, at its place
  pub place_found : (a : ℕ) → a < 8
      → (m : ℕ) × (position (λ x. eqb x a) names ≡ Some m) × (m < 8) × (get_or names m 0 ≡ a)
  place_found a h = (m, found, omega (arith, within, size), eqb-true _ _ (passes_at_first test names 0 within))
    where
      test : ℕ → Bool
      test x = eqb x a

      m : ℕ
      m = position_or_len test names

      place : ℕ
      place = get_or (inverse_list names) a 0 - 1

      there : test (get_or names place 0) ≡ true
      there = eq-eqb _ _ (label_there names (inverse_list names) size (order_inverse names order) a h)

      go : Dec (m ≤ place) → m < length names
      go (yes l) =
          omega (arith, (position_within names (inverse_list names) size (order_inverse names order) a h).1)
      go (no n) = absurd (true_false _ there (fails_before_first test names place 0 (omega arith)))

      within : m < length names
      within = go (dec_le m place)

      found : position test names ≡ Some m
      found = rw (lt-ltb m (length names) within)

  same_test : (i j : ℕ) → i < 8 → j < 8 → eqb (get_or names i 0) (get_or names j 0) ≡ eqb i j
  same_test i j b d = go (ℕ_discrete i j)
    where
      go : Dec (i ≡ j) → eqb (get_or names i 0) (get_or names j 0) ≡ eqb i j
      go (yes e) = eq-eqb _ _ (ap (λ (k : ℕ). get_or names k 0) e) ∙ sym (eq-eqb i j e)
      go (no n) = ne_eqb _ _ (λ e. n (apart i j b d e)) ∙ sym (ne_eqb i j n)

  both_named : (p q x y : ℕ) → p < 8 → q < 8 → x < 8 → y < 8
      → both (get_or names p 0) (get_or names q 0) (get_or names x 0) (get_or names y 0) ≡ both p q x y
  both_named p q x y hp hq hx hy =
      rw (same_test x p hx hp, same_test y q hy hq, same_test x q hx hq, same_test y p hy hp)

  -- the labels are the names at the places
  abbrev Named : List ℕ → List ℕ → Type 0
  Named places labels = (k : ℕ) → k < 8 → get_or labels k 0 ≡ get_or names (get_or places k 0) 0

  named_next : (g : ℕ) (places labels : List ℕ) → g + 1 < 8 → length places ≡ 8 → length labels ≡ 8
      → Named places labels → Named (swapped g places) (swapped g labels)
  named_next g places labels h lp ll e k b = go (ℕ_discrete k g) (ℕ_discrete k (g + 1))
    where
      go : Dec (k ≡ g) → Dec (k ≡ g + 1)
          → get_or (swapped g labels) k 0 ≡ get_or names (get_or (swapped g places) k 0) 0
      go (yes d) m =
          rw d
          (swapped_first g labels (omega arith) ∙ e (g + 1) h
          ∙ ap (λ (j : ℕ). get_or names j 0) (sym (swapped_first g places (omega arith))))
      go (no n) (yes d) =
          rw d
          (swapped_second g labels (omega arith) ∙ e g (omega arith)
          ∙ ap (λ (j : ℕ). get_or names j 0) (sym (swapped_second g places (omega arith))))
      go (no n) (no m) =
          swapped_other g labels k n m ∙ e k b
          ∙ ap (λ (j : ℕ). get_or names j 0) (sym (swapped_other g places k n m))

  renamed : (p q : ℕ) → p < 8 → q < 8 → (w places labels : List ℕ) → Lettered w → Labelled places → length labels ≡ 8
      → Named places labels
      → swapping (get_or names p 0) (get_or names q 0) labels w ≡ swapping p q places w
  unfolding swapping swaps
  renamed p q hp hq [] places labels letters l ll e = refl
  renamed p q hp hq (c ∷ w) places labels letters l ll e =
      let h = lettered_cons c w letters in
      let g = generator c in
      let b : g + 1 < 8 = omega (arith, generator_below c h.0) in
      ap₂ (λ (t : Bool) (r : List ℕ). cond t (c ∷ r) r)
      (ap₂ (both (get_or names p 0) (get_or names q 0)) (e g (omega arith)) (e (g + 1) b)
      ∙ both_named p q (get_or places g 0) (get_or places (g + 1) 0) hp hq (l.below g) (l.below (g + 1)))
      (renamed p q hp hq w (swapped g places) (swapped g labels) h.1 (labelled_next l c h.0)
      (length_swapped g labels ∙ ll) (named_next g places labels b l.strands ll e))

  -- from this list a word swaps two labels exactly where it swaps their places from the starting list
  by_place : (p q : ℕ) → p < 8 → q < 8 → (w : List ℕ) → Lettered w
      → swapping (get_or names p 0) (get_or names q 0) names w ≡ swapping p q strands_in_order w
  by_place p q hp hq w letters =
      renamed p q hp hq w strands_in_order names letters order_labelled size
      (λ k b. ap (λ (j : ℕ). get_or names j 0) (sym (get_d_values (λ a. a) 8 k b)))

-- ---- both halves

pub walks_ready : {w first second middle : List ℕ} → Walks w first second middle → Ready first second middle
walks_ready {middle = middle} walks =
    record {
      first_table = walks.firsts.table;
      second_table = walks.seconds.table;
      strands = ap length walks.reached ∙ length_after strands_in_order walks.front ∙ order_labelled.strands;
      order = walks.ready;
    }

module _ (a b : ℕ) (ha : a < 8) (hb : b < 8) (n : a ≡ b → ⊥) {w first second middle : List ℕ} (letters : Lettered w)
    (walks : Walks w first second middle) {number : ℤ} (found : FoundOf first second middle a b number) where
  abbrev front : List ℕ
  front = walks.front

  abbrev back : List ℕ
  back = walks.back

  parts : every is_letter front && every is_letter back ≡ true
  parts = sym (every_append is_letter front back) ∙ ap (every is_letter) walks.whole ∙ letters

  differ : found.p ≡ found.q → ⊥
  differ e = n (sym found.p_holds ∙ ap (λ (k : ℕ). get_or middle k 0) e ∙ found.q_holds)

  second_is : swapping found.p found.q strands_in_order back ≡ swapping a b (list_after strands_in_order front) back
  second_is =
      sym (by_place middle (walks_ready walks).strands walks.ready found.p found.q found.p_below
      found.q_below back (and_right (every is_letter front) (every is_letter back) parts))
      ∙ ap₂ (λ (x y : ℕ). swapping x y middle back) found.p_holds found.q_holds
      ∙ ap (λ (l : List ℕ). swapping a b l back) walks.reached

  -- a sign's letters in the front and in the back are the sign's letters in the whole word
  joined : (f : ℕ → Bool) {x y : ℕ} → x ≡ tally f (swapping a b strands_in_order front)
      → y ≡ tally f (swapping found.p found.q strands_in_order back) → x + y ≡ tally f (swapping a b strands_in_order w)
  joined f d e =
      ap₂ ◌+◌ d (e ∙ ap (tally f) second_is)
      ∙ sym (tally_append f (swapping a b strands_in_order front)
      (swapping a b (list_after strands_in_order front) back))
      ∙ ap (tally f) (sym (swapping_append a b strands_in_order front back))
      ∙ ap (λ (v : List ℕ). tally f (swapping a b strands_in_order v)) walks.whole

  pub number_of : number ≡ crossings a b w
  unfolding crossings crossings_from exponent_sum
  number_of =
      let f = and_left (every is_letter front) (every is_letter back) parts in
      let g = and_right (every is_letter front) (every is_letter back) parts in
      found.number_is
      ∙ ap₂ (λ (x y : ℕ). pos x -ℤ pos y)
      (joined is_positive (generators_are a b ha hb n f walks.firsts)
      (generators_are found.p found.q found.p_below found.q_below differ g walks.seconds))
      (joined is_inverse (inverses_are a b ha hb n f walks.firsts)
      (inverses_are found.p found.q found.p_below found.q_below differ g walks.seconds))

-- ---- the walk of both halves

-- one letter more, whose code is c
on_by : (c : ℕ) {v labels counts after table : List ℕ} {i : ℕ} → Walking v labels counts i → i < length v
    → get_or v i 0 ≡ c → is_letter c ≡ true → OneCounted c labels counts after table → Walking v after table (i + 1)
on_by c h l e letter o = walked_on h l (rw e letter) (rw e o.0) (rw e o.1)

follows_next : (v middle after last : List ℕ) (c i : ℕ) → i < length v → get_or v i 0 ≡ c
    → after ≡ swapped (generator c) middle → list_after middle (drop i v) ≡ last
    → list_after after (drop (i + 1) v) ≡ last
unfolding list_after
follows_next v middle after last c i l e a f =
    ap (λ (m : List ℕ). list_after m (drop (i + 1) v)) a
    ∙ sym (ap (list_after middle) (left ∙ ap (λ (k : ℕ). k ∷ drop (i + 1) v) e)) ∙ f
  where
    left : drop i v ≡ get_or v i 0 ∷ drop (i + 1) v
    left = rw add-one (drop-cons v i 0 l)

-- in the middle of the walk: i letters of each half are counted
pub record Halving (w : List ℕ) (half : ℕ) (middle labels first second : List ℕ) (i : ℕ) : Type 0 where
  pub front : Walking (take half w) middle first i
  pub back : Walking (drop half w) labels second i
  pub follows : list_after middle (drop i (take half w)) ≡ list_after strands_in_order (take half w)

module _ (w : List ℕ) (half : ℕ) (few : length w ≤ 10000) (letters : Lettered w) (room : half + half ≤ length w) where
  size_front : length (take half w) ≡ half
  size_front = length-take-le half w (omega arith)

  size_back : length (drop half w) ≡ length w - half
  size_back = length-drop half w

  -- before any letter
  pub halving_first : Halving w half strands_in_order strands_in_order (replicate 128 0) (replicate 128 0) 0
  halving_first = record { front = begin (take half w); back = begin (drop half w); follows = refl }
    where
      begin : (v : List ℕ) → Walking v strands_in_order (replicate 128 0) 0
      begin v = record { within = omega arith; labelled = order_labelled; size = refl; rest = none_counted v }

  module _ {middle labels first second : List ℕ} {i : ℕ} (h : Halving w half middle labels first second i) where
    pub first_table : Table first
    first_table = walking_table h.front (omega (arith, size_front))

    pub second_table : Table second
    second_table = walking_table h.back (omega (arith, size_back))

    -- a letter of each half
    pub halving_next : i < half → {middle' labels' first' second' : List ℕ}
        → OneCounted (get_or w i 0) middle first middle' first'
        → OneCounted (get_or w (half + i) 0) labels second labels' second'
        → Halving w half middle' labels' first' second' (i + 1)
    halving_next b {middle'} o p =
        let l : i < length (take half w) = omega (arith, size_front) in
        let m : i < length (drop half w) = omega (arith, size_back) in
        let at = get_or-take half w i 0 b in
        record {
          front = on_by (get_or w i 0) h.front l at (every_get_d is_letter w letters i (omega arith)) o;
          back =
              on_by (get_or w (half + i) 0) h.back m (get_or-drop half w i 0)
              (every_get_d is_letter w letters (half + i) (omega arith)) p;
          follows =
              follows_next (take half w) middle middle' (list_after strands_in_order (take half w)) (get_or w i 0) i
              l at o.0
              h.follows;
        }

    module _ (done : half ≤ i) where
      last : i ≡ half
      last = omega (arith, h.front.within, size_front)

      halves : {table : List ℕ} → Counts strands_in_order (drop half w) table → Walks w first table middle
      unfolding list_after
      halves t =
          record {
            front = take half w;
            back = drop half w;
            whole = take-append-drop half w;
            firsts = walked h.front (omega (arith, size_front)) (omega (arith, size_front));
            seconds = t;
            reached = there;
            ready =
                ap is_order there
                ∙ order_after strands_in_order (take half w) order_labelled.strands
                (every_take is_letter half w letters)
                order_first;
          }
        where
          end : drop i (take half w) ≡ []
          end = let s : i ≡ length (take half w) = omega (arith, last, size_front) in rw s (drop-length (take half w))

          there : middle ≡ list_after strands_in_order (take half w)
          there = sym (ap (list_after middle) end) ∙ h.follows

      -- a word with an even number of letters
      pub halved : length w ≤ half + half → Walks w first second middle
      halved e = halves (walked h.back (omega (arith, size_back)) (omega (arith, size_back)))

      -- a word with an odd number of letters: its last letter is counted too
      pub halved_odd : half + half < length w → length w ≤ half + half + 1 → {after table : List ℕ}
          → OneCounted (get_or w (half + half) 0) labels second after table → Walks w first table middle
      halved_odd l e {after} {table} o =
          let at = get_or-drop half w i 0 ∙ ap (λ (k : ℕ). get_or w (half + k) 0) last in
          let next : Walking (drop half w) after table (i + 1) =
          on_by (get_or w (half + half) 0) h.back (omega (arith, size_back, last)) at
          (every_get_d is_letter w letters (half + half) l) o in
          halves (walked next (omega (arith, size_back)) (omega (arith, size_back, last)))
