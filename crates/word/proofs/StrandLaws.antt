-- Laws of the list of labels. They say which label stands where after two neighbouring labels change places. Such
-- exchanges have the braid relations: an exchange done twice changes nothing, exchanges far apart commute, and three
-- exchanges at neighbouring places may go either way round. Further laws: the list after a word, and how often a label
-- stands in the list, which an exchange keeps.
use Prim.Native.Nat.{ℕ, zero, suc, ◌+◌, ◌<◌, ◌≤◌}
use mathlib.Core.Path.{◌≡◌, refl, sym, ap, ◌∙◌}
use mathlib.Core.Bool.{Bool, true, false, cond}
use mathlib.Core.List.{List, [], ◌∷◌, ◌++◌}
use native.Mathlib.Omega.{arith}
use native.Mathlib.Numerals.{add-one}
use borrow.Author.Tests.{eq-eqb}
use lib.Dec.{eqb}
use lib.ListN.{length, get_or, set, length-set}
use lib.Seq.{get_or-set_same, get_or-set_other}
use Rattle.base.specs.Lists.{count, tally}
use Rattle.word.specs.Letters.{generator}
use Rattle.word.specs.Strands.{swapped, list_after}

pub length_swapped : (g : ℕ) (l : List ℕ) → length (swapped g l) ≡ length l
unfolding swapped
length_swapped g l = simp length-set

-- the label at the first of the two places after the exchange, at the second, and at any other place
pub swapped_first : (g : ℕ) (l : List ℕ) → g + 1 < length l → get_or (swapped g l) g 0 ≡ get_or l (g + 1) 0
unfolding swapped
swapped_first g l h =
    get_or-set_other (set l g (get_or l (g + 1) 0)) (g + 1) g (get_or l g 0) 0 (omega arith)
    ∙ get_or-set_same l g (get_or l (g + 1) 0) 0 (omega arith)

pub swapped_second : (g : ℕ) (l : List ℕ) → g + 1 < length l → get_or (swapped g l) (g + 1) 0 ≡ get_or l g 0
unfolding swapped
swapped_second g l h =
    get_or-set_same (set l g (get_or l (g + 1) 0)) (g + 1) (get_or l g 0) 0
    (omega (arith, length-set l g (get_or l (g + 1) 0)))

pub swapped_other : (g : ℕ) (l : List ℕ) (k : ℕ) → (k ≡ g → ⊥) → (k ≡ g + 1 → ⊥) → get_or (swapped g l) k 0
    ≡ get_or l k 0
unfolding swapped
swapped_other g l k n m =
    get_or-set_other (set l g (get_or l (g + 1) 0)) (g + 1) k (get_or l g 0) 0 m
    ∙ get_or-set_other l g k (get_or l (g + 1) 0) 0 n

-- an exchange keeps a bound on all labels, even an exchange past the end of the list
pub swapped_below : {n : ℕ} (g : ℕ) (l : List ℕ) → ((k : ℕ) → get_or l k 0 < n) → (k : ℕ) → get_or (swapped g l) k 0 < n
unfolding swapped
swapped_below {n} g l below =
    set_below (set l g (get_or l (g + 1) 0)) (g + 1) (get_or l g 0) (below g)
    (set_below l g (get_or l (g + 1) 0) (below (g + 1)) below)
  where
    set_below : (l : List ℕ) (i v : ℕ) → v < n → ((k : ℕ) → get_or l k 0 < n) → (k : ℕ) → get_or (set l i v) k 0 < n
    set_below [] i v h below k = below k
    set_below (x ∷ l) zero v h below zero = h
    set_below (x ∷ l) zero v h below (suc k) = below (suc k)
    set_below (x ∷ l) (suc i) v h below zero = below zero
    set_below (x ∷ l) (suc i) v h below (suc k) = set_below l i v h (λ j. below (suc j)) k

-- an exchange one place later keeps the first label and exchanges in the rest
swapped_suc : (g a : ℕ) (l : List ℕ) → swapped (suc g) (a ∷ l) ≡ a ∷ swapped g l
unfolding swapped
swapped_suc g a l = simp add-one

swapped_zero : (a b : ℕ) (l : List ℕ) → swapped 0 (a ∷ b ∷ l) ≡ b ∷ a ∷ l
unfolding swapped
swapped_zero a b l = refl

swapped_one : (a b c : ℕ) (l : List ℕ) → swapped 1 (a ∷ b ∷ c ∷ l) ≡ a ∷ c ∷ b ∷ l
unfolding swapped
swapped_one a b c l = refl

-- an exchange done twice changes nothing
pub swapped_twice : (g : ℕ) (l : List ℕ) → g + 1 < length l → swapped g (swapped g l) ≡ l
swapped_twice g [] h = absurd (omega arith)
swapped_twice zero (a ∷ []) h = absurd (omega arith)
swapped_twice zero (a ∷ b ∷ l) h = simp swapped_zero
swapped_twice (suc g) (a ∷ l) h = simp swapped_suc (ap (λ (t : List ℕ). a ∷ t) (swapped_twice g l (omega arith)))

-- exchanges at places that differ by at least 2 commute
pub swapped_far : (g k : ℕ) (l : List ℕ) → g + 2 ≤ k → k + 1 < length l
    → swapped k (swapped g l) ≡ swapped g (swapped k l)
swapped_far g k [] f h = absurd (omega arith)
swapped_far zero zero (a ∷ l) f h = absurd (omega arith)
swapped_far zero (suc zero) (a ∷ l) f h = absurd (omega arith)
swapped_far zero (suc (suc k)) (a ∷ []) f h = absurd (omega arith)
swapped_far zero (suc (suc k)) (a ∷ b ∷ l) f h = simp (swapped_suc, swapped_zero)
swapped_far (suc g) zero (a ∷ l) f h = absurd (omega arith)
swapped_far (suc g) (suc k) (a ∷ l) f h =
    simp swapped_suc (ap (λ (t : List ℕ). a ∷ t) (swapped_far g k l (omega arith) (omega arith)))

-- exchanges at places g, g + 1 and g give the same list as exchanges at g + 1, g and g + 1
pub swapped_braid : (g : ℕ) (l : List ℕ) → g + 2 < length l
    → swapped g (swapped (g + 1) (swapped g l)) ≡ swapped (g + 1) (swapped g (swapped (g + 1) l))
swapped_braid g l h = simp add-one (go g l h)
  where
    go : (g : ℕ) (l : List ℕ) → g + 2 < length l
        → swapped g (swapped (suc g) (swapped g l)) ≡ swapped (suc g) (swapped g (swapped (suc g) l))
    go g [] h = absurd (omega arith)
    go zero (a ∷ []) h = absurd (omega arith)
    go zero (a ∷ b ∷ []) h = absurd (omega arith)
    go zero (a ∷ b ∷ c ∷ l) h = simp (swapped_one, swapped_zero)
    go (suc g) (a ∷ l) h = simp swapped_suc (ap (λ (t : List ℕ). a ∷ t) (go g l (omega arith)))

-- ---- the list after a word

pub length_after : (labels w : List ℕ) → length (list_after labels w) ≡ length labels
unfolding list_after
length_after labels [] = refl
length_after labels (c ∷ w) = length_after (swapped (generator c) labels) w ∙ length_swapped (generator c) labels

-- after two words in a row, the list is what the second word makes of the list that the first word left
pub after_append : (labels v w : List ℕ) → list_after labels (v ++ w) ≡ list_after (list_after labels v) w
unfolding list_after
after_append labels [] w = refl
after_append labels (c ∷ v) w = after_append (swapped (generator c) labels) v w

-- ---- how often a label stands in the list

-- a label stands in the list as often after an exchange as before it
pub count_swapped : (a g : ℕ) (l : List ℕ) → g + 1 < length l → count a (swapped g l) ≡ count a l
unfolding tally
count_swapped a g [] h = absurd (omega arith)
count_swapped a zero (x ∷ []) h = absurd (omega arith)
count_swapped a zero (x ∷ y ∷ l) h = ap (count a) (swapped_zero x y l) ∙ go (eqb x a) (eqb y a) (count a l)
  where
    go : (s t : Bool) (n : ℕ)
        → cond t (suc (cond s (suc n) n)) (cond s (suc n) n) ≡ cond s (suc (cond t (suc n) n)) (cond t (suc n) n)
    go true true n = refl
    go true false n = refl
    go false t n = refl
count_swapped a (suc g) (x ∷ l) h =
    ap (count a) (swapped_suc g x l) ∙ ap (λ (n : ℕ). cond (eqb x a) (suc n) n) (count_swapped a g l (omega arith))

-- if no label below n stands in the list twice, two neighbouring labels differ
pub neighbours_differ : (n g : ℕ) (l : List ℕ) → g + 1 < length l → get_or l g 0 < n → ((a : ℕ) → a < n → count a l ≤ 1)
    → get_or l g 0 ≡ get_or l (g + 1) 0 → ⊥
unfolding tally
neighbours_differ n g [] h b once e = absurd (omega arith)
neighbours_differ n zero (x ∷ []) h b once e = absurd (omega arith)
neighbours_differ n zero (x ∷ y ∷ l) h b once e =
    let twice : count x (x ∷ y ∷ l) ≡ suc (suc (count x l)) = rw (eq-eqb x x refl, eq-eqb y x (sym e)) in
    omega (arith, once x b)
neighbours_differ n (suc g) (x ∷ l) h b once e =
    neighbours_differ n g l (omega arith) b (λ a i. go (eqb x a) (once a i))
    (e ∙ ap (λ (k : ℕ). get_or (x ∷ l) k 0) next)
  where
    next : suc g + 1 ≡ suc (g + 1)
    next = omega arith

    go : {m : ℕ} (t : Bool) → cond t (suc m) m ≤ 1 → m ≤ 1
    go true h = omega arith
    go false h = h
