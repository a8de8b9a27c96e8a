-- Laws of parts: the sum grows part by part, more than seven parts are no parts of 7, and how many generators come
-- after a generator in its part.
use Prim.Native.Nat.{ℕ, suc, ◌+◌, ◌-◌, ◌≤◌, ◌<◌}
use mathlib.Core.Path.{◌≡◌, refl, sym, ap, ◌∙◌}
use mathlib.Core.Bool.{Bool, true, false, cond, ◌&&◌}
use mathlib.Core.List.{List, [], ◌∷◌, ◌++◌}
use native.Mathlib.Omega.{arith}
use native.Mathlib.Numerals.{add-one}
use native.Mathlib.Decide.{dec_lt}
use borrow.Author.Tests.{lt-ltb, le-ltb, ltb-true, ltb-false, eqb-true}
use lib.Dec.{ltb, eqb}
use lib.ListN.{length, take, drop, get_or}
use lib.Seq.{take-suc, drop-cons}
use Rattle.base.specs.Lists.{every}
use Rattle.base.proofs.ListLaws.{and_left, and_right, not_true_false}
use Rattle.word_dialect.specs.Dialect.{part_sum, are_parts, following}

abbrev positive : List ℕ → Bool
positive parts = every (λ p. ltb 0 p) parts

-- ---- the sum

sum_append : (ps qs : List ℕ) → part_sum (ps ++ qs) ≡ part_sum ps + part_sum qs
unfolding part_sum
sum_append [] qs = omega arith
sum_append (p ∷ ps) qs = omega (arith, sum_append ps qs)

-- one more part
pub sum_more : (parts : List ℕ) (k : ℕ) → k < length parts
    → part_sum (take (k + 1) parts) ≡ part_sum (take k parts) + get_or parts k 0
unfolding part_sum
sum_more parts k h =
    ap (λ (n : ℕ). part_sum (take n parts)) (add-one k) ∙ ap part_sum (take-suc parts k 0 h)
    ∙ sum_append (take k parts) (get_or parts k 0 ∷ [])
    ∙ ap (λ (n : ℕ). part_sum (take k parts) + n) (omega arith)

-- parts without a zero are no more than their sum
few_parts : (parts : List ℕ) → positive parts ≡ true → length parts ≤ part_sum parts
unfolding part_sum every
few_parts [] e = omega arith
few_parts (p ∷ parts) e =
    omega (
      arith,
      ltb-true 0 p (and_left (ltb 0 p) (positive parts) e),
      few_parts parts (and_right (ltb 0 p) (positive parts) e),
    )

-- the two tests that the code makes give the result of the definition's three tests
pub parts_are : (parts : List ℕ) → (positive parts && eqb (part_sum parts) 7) ≡ are_parts parts
unfolding part_sum every
parts_are [] = refl
parts_are (p ∷ parts) =
    ap (λ (b : Bool). b && (positive (p ∷ parts) && eqb (part_sum (p ∷ parts)) 7))
    (sym (lt-ltb 0 (length (p ∷ parts)) (omega arith)))

-- more than seven parts
pub too_many : (parts : List ℕ) → 7 < length parts → are_parts parts ≡ false
too_many parts h =
    not_true_false (are_parts parts)
    (λ e. let both = parts_are parts ∙ e in
    let n = few_parts parts (and_left (positive parts) (eqb (part_sum parts) 7) both) in
    let s = eqb-true (part_sum parts) 7 (and_right (positive parts) (eqb (part_sum parts) 7) both) in
    omega arith)

sum_is : (parts : List ℕ) → are_parts parts ≡ true → part_sum parts ≡ 7
sum_is parts e = eqb-true (part_sum parts) 7 (and_right (positive parts) (eqb (part_sum parts) 7) (parts_are parts ∙ e))

-- ---- how many come after

-- the generator lies in the first part, or in a later one
pub in_first : (p : ℕ) (parts : List ℕ) (g : ℕ) → g < p → following (p ∷ parts) g ≡ p - suc g
unfolding following
in_first p parts g h = ap (λ (b : Bool). cond b (p - suc g) (following parts (g - p))) (lt-ltb g p h)

pub in_later : (p : ℕ) (parts : List ℕ) (g : ℕ) → p ≤ g → following (p ∷ parts) g ≡ following parts (g - p)
unfolding following
in_later p parts g h = ap (λ (b : Bool). cond b (p - suc g) (following parts (g - p))) (le-ltb g p h)

-- the parts from place i on, taken apart
pub rest_is : (parts : List ℕ) (i g : ℕ) → i < length parts
    → following (drop i parts) g ≡ following (get_or parts i 0 ∷ drop (i + 1) parts) g
rest_is parts i g h =
    ap (λ (l : List ℕ). following l g)
    (drop-cons parts i 0 h ∙ ap (λ (n : ℕ). get_or parts i 0 ∷ drop n parts) (sym (add-one i)))

-- a generator that is in the parts, and those after it in its part, lie below the sum
following_within : (parts : List ℕ) (g : ℕ) → g < part_sum parts → g + following parts g < part_sum parts
unfolding part_sum
following_within [] g h = omega arith
following_within (p ∷ parts) g h = go (ltb g p) refl (following_within parts (g - p))
  where
    go : (b : Bool) → ltb g p ≡ b → (g - p < part_sum parts → g - p + following parts (g - p) < part_sum parts)
        → g + following (p ∷ parts) g < p + part_sum parts
    go true e rest = let l = ltb-true g p e in omega (arith, in_first p parts g l)
    go false e rest =
        let l : p ≤ g = ltb-false g p e in
        omega (arith, in_later p parts g l, rest (omega arith))

-- a generator past the parts
following_past : (parts : List ℕ) (g : ℕ) → part_sum parts ≤ g → following parts g ≡ 0
unfolding part_sum following
following_past [] g h = refl
following_past (p ∷ parts) g h =
    let l : p ≤ g = omega arith in in_later p parts g l ∙ following_past parts (g - p) (omega arith)

-- if n + 1 generators come after a generator, n come after the next one
pub following_next : (parts : List ℕ) (g n : ℕ) → following parts g ≡ suc n → following parts (g + 1) ≡ n
unfolding following
following_next [] g n e = omega arith
following_next (p ∷ parts) g n e = go (ltb g p) refl (following_next parts (g - p) n)
  where
    go : (b : Bool) → ltb g p ≡ b → (following parts (g - p) ≡ suc n → following parts (g - p + 1) ≡ n)
        → following (p ∷ parts) (g + 1) ≡ n
    go true t rest =
        let l = ltb-true g p t in
        let f = in_first p parts g l in
        let z : p - suc (g + 1) ≡ n = omega arith in
        in_first p parts (g + 1) (omega arith) ∙ z
    go false t rest =
        let l : p ≤ g = ltb-false g p t in
        let s : g + 1 - p ≡ g - p + 1 = omega arith in
        in_later p parts (g + 1) (omega arith) ∙ ap (following parts) s ∙ rest (sym (in_later p parts g l) ∙ e)

-- for parts of 7
module _ (parts : List ℕ) (e : are_parts parts ≡ true) where
  pub within : (g : ℕ) → g < 7 → g + following parts g < 7
  within g h = let s = sum_is parts e in let w = following_within parts g (omega arith) in omega arith

  past : following parts 7 ≡ 0
  past = let s = sum_is parts e in following_past parts 7 (omega arith)

  -- There is room for the run of any generator below 8. Generator 7 lies in no part.
  pub room_for_run : (g : ℕ) → g < 8 → (g + following parts g < 8) × (following parts g < 7)
  room_for_run g h =
      elim (dec_lt g 7) [
        | yes p ↦ let w = within g p in (omega arith, omega arith)
        | no q ↦
            let seven : g ≡ 7 = omega arith in
            let none : following parts g ≡ 0 = ap (following parts) seven ∙ past in
            (omega arith, omega arith)
      ]
