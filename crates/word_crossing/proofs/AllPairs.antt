-- The 28 numbers sum to the positive letters less the inverse ones, because each letter of a word swaps just one pair
-- of labels. This holds from any list of the labels 0 to 7, each once, and so from the starting list.
use Prim.Native.Nat.{ℕ, suc, ◌+◌, ◌≤◌, ◌<◌}
use mathlib.Core.Path.{◌≡◌, refl, sym, ap, ap₂, ◌∙◌}
use mathlib.Core.Bool.{Bool, true, false, cond}
use mathlib.Core.List.{List, [], ◌∷◌}
use native.Mathlib.Omega.{arith}
use borrow.Author.Tests.{ne_eqb, eqb-true}
use lib.Dec.{eqb}
use lib.ListN.{length, get_or}
use lib.IntN.{ℤ, pos, ◌+ℤ◌, ◌-ℤ◌}
use Rattle.base.specs.Lists.{every, count, values, values_from, each_once, tally}
use Rattle.base.proofs.ListLaws.{every_values}
use Rattle.word.specs.Letters.{is_positive, is_inverse, generator}
use Rattle.word.specs.Exponent.{exponent_sum}
use Rattle.word.specs.Strands.{strands_in_order, is_order, swapped}
use Rattle.word.specs.Words.{codes, word_answer}
use Rattle.word.proofs.LetterLaws.{Lettered, lettered_cons, generator_below}
use Rattle.word.proofs.ReadLaws.{accepted_word}
use Rattle.word.proofs.ExponentLaws.{differences_add}
use Rattle.word.proofs.StrandLaws.{count_swapped, neighbours_differ}
use Rattle.word.proofs.PositionLaws.{order_below, order_once}
use Rattle.word_crossing.specs.Crossings.{Two, both, swaps, swapping, crossings_from, crossings, with_each}
use Rattle.word_crossing.specs.Crossings.{pairs_from, all_pairs, together}
use Rattle.word_crossing.specs.steps.Counting.{Labelled}
use Rattle.word_crossing.proofs.CrossingLaws.{share, tally_letter}
use Rattle.word_crossing.proofs.CountLaws.{labelled_next}

-- ---- sums over pairs

sum : (Two → ℕ) → List Two → ℕ
sum f [] = 0
sum f (p ∷ ps) = f p + sum f ps

sum_ext : (f g : Two → ℕ) (ps : List Two) → ((p : Two) → f p ≡ g p) → sum f ps ≡ sum g ps
unfolding sum
sum_ext f g [] h = refl
sum_ext f g (p ∷ ps) h = ap₂ (λ (m n : ℕ). m + n) (h p) (sum_ext f g ps h)

sum_add : (f g : Two → ℕ) (ps : List Two) → sum (λ p. f p + g p) ps ≡ sum f ps + sum g ps
unfolding sum
sum_add f g [] = refl
sum_add f g (p ∷ ps) = omega (arith, sum_add f g ps)

sum_zero : (ps : List Two) → sum (λ p. 0) ps ≡ 0
unfolding sum
sum_zero [] = refl
sum_zero (p ∷ ps) = omega (arith, sum_zero ps)

-- the sum of differences is the difference of the sums
together_difference : (f g : Two → ℕ) (ps : List Two)
    → together (λ p. pos (f p) -ℤ pos (g p)) ps ≡ pos (sum f ps) -ℤ pos (sum g ps)
unfolding sum together
together_difference f g [] = refl
together_difference f g (p ∷ ps) =
    ap (λ (x : ℤ). (pos (f p) -ℤ pos (g p)) +ℤ x) (together_difference f g ps)
    ∙ differences_add (f p) (g p) (sum f ps) (sum g ps)

-- ---- one letter

-- Two different labels are just one of the 28 pairs. The proof tests every two labels.
pair_rule : ℕ → ℕ → Bool
pair_rule x y = cond (eqb x y) true (eqb (sum (λ p. share (both p.smaller p.larger x y) true) all_pairs) 1)

pair_rules : every (λ x. every (pair_rule x) (values (λ y. y) 8)) (values (λ x. x) 8) ≡ true
unfolding values_from every pair_rule sum with_each pairs_from
pair_rules = refl

one_pair : (x y : ℕ) → x < 8 → y < 8 → (x ≡ y → ⊥) → (d : Bool)
    → sum (λ p. share (both p.smaller p.larger x y) d) all_pairs ≡ cond d 1 0
unfolding pair_rule
one_pair x y hx hy n true =
    eqb-true _ _
    (ap (λ (b : Bool). cond b true (eqb (sum (λ p. share (both p.smaller p.larger x y) true) all_pairs) 1))
    (sym (ne_eqb x y n))
    ∙ every_values (pair_rule x) (λ y. y) 8
    (every_values (λ x. every (pair_rule x) (values (λ y. y) 8)) (λ x. x) 8 pair_rules x hx) y hy)
one_pair x y hx hy n false =
    sum_ext _ (λ p. 0) all_pairs (λ p. go (both p.smaller p.larger x y)) ∙ sum_zero all_pairs
  where
    go : (t : Bool) → share t false ≡ 0
    go true = refl
    go false = refl

-- ---- a word

-- no label stands twice
abbrev Once : List ℕ → Type 0
Once labels = (a : ℕ) → a < 8 → count a labels ≤ 1

module _ (f : ℕ → Bool) where
  all_tallied : (labels w : List ℕ) → Labelled labels → Once labels → Lettered w
      → sum (λ p. tally f (swapping p.smaller p.larger labels w)) all_pairs ≡ tally f w
  unfolding tally swapping swaps
  all_tallied labels [] l once e = sum_zero all_pairs
  all_tallied labels (c ∷ w) l once e =
      let h = lettered_cons c w e in
      let g = generator c in
      let next = swapped g labels in
      let fits : g + 1 < length labels = omega (arith, l.strands, generator_below c h.0) in
      let differ = neighbours_differ 8 g labels fits (l.below g) once in
      let once' : Once next = λ a i. omega (arith, count_swapped a g labels fits, once a i) in
      let share-of : Two → ℕ = λ (p : Two). share (swaps p.smaller p.larger labels c) (f c) in
      let rest_of : Two → ℕ = λ (p : Two). tally f (swapping p.smaller p.larger next w) in
      sum_ext _ (λ p. share-of p + rest_of p) all_pairs (λ p. tally_letter f p.smaller p.larger labels c w)
      ∙ sum_add share-of rest_of all_pairs
      ∙ ap₂ (λ (m n : ℕ). m + n)
      (one_pair (get_or labels g 0) (get_or labels (g + 1) 0) (l.below g) (l.below (g + 1)) differ (f c))
      (all_tallied next w (labelled_next l c h.0) once' h.1)
      ∙ more (f c) (tally f w)
    where
      more : (t : Bool) (n : ℕ) → cond t 1 0 + n ≡ cond t (suc n) n
      more true n = omega arith
      more false n = omega arith

-- ---- the sum of the 28 numbers

module _ (labels : List ℕ) (size : length labels ≡ 8) (order : is_order labels ≡ true) where
  labelled : Labelled labels
  labelled = record { strands = size; below = order_below labels order }

  once : Once labels
  once a i = omega (arith, order_once labels order a i)

  pub together_from : (w : List ℕ) → Lettered w
      → together (λ p. crossings_from labels p.smaller p.larger w) all_pairs ≡ exponent_sum w
  unfolding crossings_from exponent_sum
  together_from w e =
      together_difference (λ p. tally is_positive (swapping p.smaller p.larger labels w))
      (λ p. tally is_inverse (swapping p.smaller p.larger labels w)) all_pairs
      ∙ ap₂ (λ (m n : ℕ). pos m -ℤ pos n) (all_tallied is_positive labels w labelled once e)
      (all_tallied is_inverse labels w labelled once e)

-- the sum of the 28 numbers of an accepted word, from the starting list
pub all_crossings_lem : (word : List ℕ) → word_answer word ≡ 0
    → together (λ p. crossings p.smaller p.larger (codes word)) all_pairs ≡ exponent_sum (codes word)
unfolding crossings each_once every tally values_from
all_crossings_lem word e = together_from strands_in_order refl refl (codes word) (accepted_word word e).lettered

-- there are 28 pairs
pub twenty_eight : length all_pairs ≡ 28
unfolding with_each pairs_from
twenty_eight = refl
