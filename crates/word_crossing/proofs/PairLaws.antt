-- The 28 pairs one by one: their labels, and their numbers in a row.
use Prim.Native.Nat.{ℕ, zero, suc, ◌+◌, ◌≤◌, ◌<◌}
use mathlib.Core.Path.{◌≡◌, refl, sym, ◌∙◌}
use mathlib.Core.Bool.{Bool, true, ◌&&◌}
use mathlib.Core.List.{List, [], ◌∷◌, map}
use native.Mathlib.Decide.{dec_le, ℕ_discrete}
use native.Mathlib.Omega.{arith}
use borrow.Author.Tests.{ltb-true}
use lib.Dec.{ltb}
use lib.IntN.{ℤ, pos, nat_abs}
use lib.ListN.{length, get_or, set, length-map, get_or-eq_default}
use lib.Seq.{ext_get_or, get_or-set_same, get_or-set_other}
use Rattle.base.specs.Lists.{every, values, values_from}
use Rattle.base.proofs.ListLaws.{and_left, and_right, every_values}
use Rattle.word.specs.Words.{codes, word_answer}
use Rattle.word_crossing.specs.Crossings.{Two, with_each, pairs_from, all_pairs, crossings, all_crossings}
use Rattle.word_crossing.specs.steps.Pairs.{pair_at}
use Rattle.word_crossing.proofs.AllPairs.{twenty_eight}
use Rattle.word_crossing.proofs.CrossingLaws.{crossings_within}

-- ---- the labels of a pair

-- The labels of a pair are different and below 8. The proof tests all pairs.
abbrev pair_rule : ℕ → Bool
pair_rule k = ltb (pair_at k).smaller (pair_at k).larger && ltb (pair_at k).larger 8

pair_rules : every pair_rule (values (λ k. k) 28) ≡ true
unfolding values_from every with_each pairs_from
pair_rules = refl

module _ (k : ℕ) (h : k < 28) where
  rule : pair_rule k ≡ true
  rule = every_values pair_rule (λ k. k) 28 pair_rules k h

  pub in_order : (pair_at k).smaller < (pair_at k).larger
  in_order = ltb-true _ _ (and_left _ (ltb (pair_at k).larger 8) rule)

  pub larger_below : (pair_at k).larger < 8
  larger_below = ltb-true _ _ (and_right (ltb (pair_at k).smaller (pair_at k).larger) _ rule)

-- a row that has an entry for each pair
row_at {ℓ} : {A : Type ℓ} (f : Two → A) (d : A) (ps : List Two) (k : ℕ) → k < length ps
    → get_or (map f ps) k d ≡ f (get_or ps k (record { smaller = 0; larger = 0 }))
row_at f d [] k h = absurd (omega arith)
row_at f d (p ∷ ps) zero h = refl
row_at f d (p ∷ ps) (suc k) h = row_at f d ps k (omega arith)

-- a label of pair k
pub label_at : (f : Two → ℕ) (k : ℕ) → k < 28 → get_or (map f all_pairs) k 0 ≡ f (pair_at k)
label_at f k h = row_at f 0 all_pairs k (rw twenty_eight h)

-- past the last pair both labels are 0
pub past_last : (k : ℕ) → 28 ≤ k → pair_at k ≡ record { smaller = 0; larger = 0 }
past_last k h = get_or-eq_default all_pairs (record { smaller = 0; larger = 0 }) {n = k} (omega (arith, twenty_eight))

-- ---- their numbers

module _ (w : List ℕ) where
  pub length_all : length (all_crossings w) ≡ 28
  unfolding all_crossings
  length_all = length-map all_pairs (λ p. crossings p.smaller p.larger w) ∙ twenty_eight

  number_at : (k : ℕ) → k < 28 → get_or (all_crossings w) k (pos 0) ≡ crossings (pair_at k).smaller (pair_at k).larger w
  unfolding all_crossings
  number_at k h = row_at (λ p. crossings p.smaller p.larger w) (pos 0) all_pairs k (rw twenty_eight h)

  -- one turn of the loop: a row with the numbers of the pairs before k gets the number of pair k
  pub number_more : (numbers : List ℤ) (k : ℕ) (v : ℤ) → k < length numbers
      → ((j : ℕ) → j < k → get_or numbers j (pos 0) ≡ crossings (pair_at j).smaller (pair_at j).larger w)
      → v ≡ crossings (pair_at k).smaller (pair_at k).larger w
      → (j : ℕ) → j < k + 1 → get_or (set numbers k v) j (pos 0) ≡ crossings (pair_at j).smaller (pair_at j).larger w
  number_more numbers k v h before e j l = at (ℕ_discrete j k)
    where
      at : Dec (j ≡ k) → get_or (set numbers k v) j (pos 0) ≡ crossings (pair_at j).smaller (pair_at j).larger w
      at (yes d) = rw d (get_or-set_same numbers k v (pos 0) h ∙ e)
      at (no n) = get_or-set_other numbers k j v (pos 0) n ∙ before j (omega arith)

  -- a row of 28 numbers, each the number of its pair, is `all_crossings`
  pub all_numbers : (numbers : List ℤ) → length numbers ≡ 28
      → ((k : ℕ) → k < 28 → get_or numbers k (pos 0) ≡ crossings (pair_at k).smaller (pair_at k).larger w)
      → numbers ≡ all_crossings w
  all_numbers numbers e each =
      ext_get_or (pos 0) numbers (all_crossings w) (e ∙ sym length_all)
      (λ k h. let here : k < 28 = omega arith in each k here ∙ sym (number_at k here))

-- two words in which every two labels cross equally often have the same numbers
pub all_alike : (w v : List ℕ) → ((a b : ℕ) → crossings a b v ≡ crossings a b w) → all_crossings v ≡ all_crossings w
unfolding all_crossings
all_alike w v s = λ i. map (λ p. s p.smaller p.larger i) all_pairs

-- the numbers of an accepted word lie between -10,000 and 10,000; past the last, `get_or` gives 0
pub numbers_within : (word : List ℕ) → word_answer word ≡ 0 → (k : ℕ)
    → nat_abs (get_or (all_crossings (codes word)) k (pos 0)) ≤ 10000
numbers_within word e k = go (dec_le 28 k)
  where
    go : Dec (28 ≤ k) → nat_abs (get_or (all_crossings (codes word)) k (pos 0)) ≤ 10000
    go (yes h) =
        rw (get_or-eq_default (all_crossings (codes word)) (pos 0) {n = k} (omega (arith, length_all (codes word))))
        (omega arith)
    go (no h) =
        rw (number_at (codes word) k (omega arith)) (crossings_within word (pair_at k).smaller (pair_at k).larger e)
