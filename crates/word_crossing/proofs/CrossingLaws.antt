-- Laws of crossings, from any list and for any two numbers as labels: a word in two parts, one letter more, the two
-- labels the other way round. Then: how large the number of an accepted word is.
use Prim.Native.Nat.{ℕ, suc, ◌+◌, ◌≤◌}
use mathlib.Core.Path.{◌≡◌, refl, ap, ap₂, ◌∙◌}
use mathlib.Core.Bool.{Bool, true, false, cond, ◌&&◌, ◌||◌, and_comm, or_comm}
use mathlib.Core.List.{List, [], ◌∷◌, ◌++◌}
use native.Mathlib.Omega.{arith}
use lib.Dec.{eqb}
use lib.ListN.{length, get_or}
use lib.IntN.{nat_abs, ◌+ℤ◌}
use Rattle.base.specs.Lists.{tally}
use Rattle.word.specs.Letters.{generator, is_positive, is_inverse}
use Rattle.word.specs.Exponent.{exponent_sum}
use Rattle.word.specs.Strands.{strands_in_order, swapped, list_after}
use Rattle.word.specs.Words.{codes, word_answer}
use Rattle.word.proofs.ReadLaws.{accepted_word}
use Rattle.word.proofs.ExponentLaws.{exponent_append}
use Rattle.word_crossing.specs.Crossings.{both, swaps, swapping, crossings_from, crossings}
use Rattle.word_crossing.proofs.SignedLaws.{difference_within}

-- ---- either way round

pub both_turned : (a b p q : ℕ) → both a b q p ≡ both a b p q
both_turned a b p q =
    ap₂ (λ (x y : Bool). x || y) (and_comm (eqb q a) (eqb p b)) (and_comm (eqb q b) (eqb p a))
    ∙ or_comm (eqb p b && eqb q a) (eqb p a && eqb q b)

both_exchanged : (a b p q : ℕ) → both b a p q ≡ both a b p q
both_exchanged a b p q = or_comm (eqb p b && eqb q a) (eqb p a && eqb q b)

swapping_exchanged : (a b : ℕ) (w labels : List ℕ) → swapping b a labels w ≡ swapping a b labels w
unfolding swapping swaps
swapping_exchanged a b [] labels = refl
swapping_exchanged a b (c ∷ w) labels =
    ap₂ (λ (t : Bool) (r : List ℕ). cond t (c ∷ r) r)
    (both_exchanged a b (get_or labels (generator c) 0) (get_or labels (generator c + 1) 0))
    (swapping_exchanged a b w (swapped (generator c) labels))

-- the number is symmetric in the two labels
crossings_symmetric : (labels : List ℕ) (a b : ℕ) (w : List ℕ)
    → crossings_from labels b a w ≡ crossings_from labels a b w
unfolding crossings_from
crossings_symmetric labels a b w = ap exponent_sum (swapping_exchanged a b w labels)

-- ---- a word in two parts

module _ (a b : ℕ) where
  pub swapping_append : (labels v w : List ℕ)
      → swapping a b labels (v ++ w) ≡ swapping a b labels v ++ swapping a b (list_after labels v) w
  unfolding swapping list_after
  swapping_append labels [] w = refl
  swapping_append labels (c ∷ v) w = go (swaps a b labels c) _ _ (swapping_append (swapped (generator c) labels) v w)
    where
      go : (t : Bool) {r : List ℕ} (s u : List ℕ) → r ≡ s ++ u → cond t (c ∷ r) r ≡ cond t (c ∷ s) s ++ u
      go true s u e = ap (λ (l : List ℕ). c ∷ l) e
      go false s u e = e

  -- the number of the word is the sum of its parts' numbers, the second from the list that the first part leaves
  pub crossings_append : (labels v w : List ℕ)
      → crossings_from labels a b (v ++ w) ≡ crossings_from labels a b v +ℤ crossings_from (list_after labels v) a b w
  unfolding crossings_from
  crossings_append labels v w =
      ap exponent_sum (swapping_append labels v w)
      ∙ exponent_append (swapping a b labels v) (swapping a b (list_after labels v) w)

-- ---- one letter more

-- what a letter adds to a count: 1 if it is counted and passes a test
abbrev pub share : Bool → Bool → ℕ
share t passed = cond t (cond passed 1 0) 0

pub tally_letter : (f : ℕ → Bool) (a b : ℕ) (labels : List ℕ) (c : ℕ) (w : List ℕ)
    → tally f (swapping a b labels (c ∷ w))
    ≡ share (swaps a b labels c) (f c) + tally f (swapping a b (swapped (generator c) labels) w)
unfolding tally swapping
tally_letter f a b labels c w = go (swaps a b labels c)
  where
    rest : List ℕ
    rest = swapping a b (swapped (generator c) labels) w

    passed : (p : Bool) → cond p (suc (tally f rest)) (tally f rest) ≡ cond p 1 0 + tally f rest
    passed true = omega arith
    passed false = omega arith

    go : (t : Bool) → tally f (cond t (c ∷ rest) rest) ≡ share t (f c) + tally f rest
    go true = passed (f c)
    go false = omega arith

-- ---- how large a number is

-- no more letters are counted than the word has
tally_within : (f : ℕ → Bool) (a b : ℕ) (labels w : List ℕ) → tally f (swapping a b labels w) ≤ length w
unfolding tally swapping
tally_within f a b labels [] = omega arith
tally_within f a b labels (c ∷ w) =
    omega (
      arith,
      tally_letter f a b labels c w,
      at_most_one (swaps a b labels c) (f c),
      tally_within f a b (swapped (generator c) labels) w,
    )
  where
    at_most_one : (t passed : Bool) → share t passed ≤ 1
    at_most_one true true = omega arith
    at_most_one true false = omega arith
    at_most_one false passed = omega arith

-- an accepted word's numbers lie between -10,000 and 10,000
pub crossings_within : (word : List ℕ) (a b : ℕ) → word_answer word ≡ 0 → nat_abs (crossings a b (codes word)) ≤ 10000
unfolding crossings crossings_from exponent_sum
crossings_within word a b e =
    difference_within (tally is_positive (swapping a b strands_in_order (codes word)))
    (tally is_inverse (swapping a b strands_in_order (codes word))) 10000
    (within is_positive) (within is_inverse)
  where
    within : (f : ℕ → Bool) → tally f (swapping a b strands_in_order (codes word)) ≤ 10000
    within f =
        let w = accepted_word word e in
        omega (arith, tally_within f a b strands_in_order (codes word), w.count, w.few)
