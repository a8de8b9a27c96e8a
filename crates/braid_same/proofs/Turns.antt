-- Letters that pass others. A letter passes letters that are far from it. Neighbouring letters j k of one sign pass a
-- third letter of j's generator and any sign, which then has k's generator. In codes: for a letter d whose generator is
-- one above that of c, code c + 1 is the letter of d's generator with the sign of c, and d - 1 is the letter of c's
-- generator with the sign of d.
use Prim.Native.Nat.{ℕ, ◌+◌, ◌-◌, ◌<◌}
use mathlib.Core.Path.{◌≡◌, refl, sym, ap, subst, ◌∙◌}
use mathlib.Core.Bool.{Bool, true, false, cond, ◌&&◌, ◌||◌, beq}
use mathlib.Core.List.{List, [], ◌∷◌, ◌++◌}
use mathlib.Core.Logic.{◌⊎◌, inl, inr, ⊎_elim}
use native.Mathlib.Omega.{arith}
use borrow.Author.Tests.{eqb-true, eq-eqb}
use lib.Dec.{eqb}
use Rattle.base.specs.Lists.{every, values_from, values}
use Rattle.base.proofs.ListLaws.{and_left, and_right, and_both, beq_true, every_values}
use Rattle.word.specs.Letters.{is_letter, is_inverse, generator, inverse, far}
use Rattle.word.proofs.LetterLaws.{inverse_letter, inverse_twice, letter_below, far_apart, Neighbours}
use Rattle.word.proofs.LetterLaws.{Lettered, lettered_cons}
use Rattle.braid_same.specs.SameBraid.{SameBraid}
use Rattle.braid_same.proofs.Laws.{same_none, same_then, same_turned, same_append, same_inside}
use Rattle.braid_same.proofs.Relations.{cancelled, exchanged, braided}

-- a letter after its inverse
pub cancelled_back : (c : ℕ) → is_letter c ≡ true → SameBraid (inverse c ∷ c ∷ []) []
cancelled_back c e =
    subst (λ (d : ℕ). SameBraid (inverse c ∷ d ∷ []) []) (inverse_twice c e)
    (cancelled (inverse c) (inverse_letter c e))

-- a letter passes letters that are far from it
pub far_passes : (c : ℕ) (m : List ℕ) → is_letter c ≡ true → Lettered m → every (far c) m ≡ true
    → SameBraid (c ∷ m) (m ++ (c ∷ []))
unfolding every
far_passes c [] e l f = same_none (c ∷ [])
far_passes c (d ∷ m) e l f =
    let (e', l') = lettered_cons d m l in
    same_then
    (same_inside [] m (exchanged c d e e' (far_apart c d (and_left (far c d) (every (far c) m) f))))
    (same_append (same_none (d ∷ [])) (far_passes c m e l' (and_right (far c d) (every (far c) m) f)))

-- two letters x and y of the generators of j and k, both with the signs of j and k or both with the other sign
abbrev pub Alike : ℕ → ℕ → ℕ → ℕ → Type 0
Alike j k x y = ((j ≡ x) × (k ≡ y)) ⊎ ((inverse j ≡ x) × (inverse k ≡ y))

alike_turned : {j k x y : ℕ} → Alike j k x y → Alike k j y x
alike_turned (inl (p, q)) = inl (q, p)
alike_turned (inr (p, q)) = inr (q, p)

-- neighbours j k of one sign pass a letter of any sign: j k j is k j k, and j k j⁻¹ is k⁻¹ j k
pub turned : (j k x y : ℕ) → is_letter j ≡ true → is_letter k ≡ true → is_inverse j ≡ is_inverse k → Neighbours j k
    → Alike j k x y
    → SameBraid (j ∷ k ∷ x ∷ []) (y ∷ j ∷ k ∷ [])
turned j k x y e e' s n (inl (p, q)) = rw (← p, ← q) (braided j k e e' s n)
turned j k x y e e' s n (inr (p, q)) =
    rw (← p, ← q)
    (same_then (same_turned (same_inside [] (j ∷ k ∷ inverse j ∷ []) (cancelled_back k e')))
    (same_then
    (same_turned (same_inside (inverse k ∷ []) (inverse j ∷ []) (braided j k e e' s n)))
    (same_inside (inverse k ∷ j ∷ k ∷ []) [] (cancelled j e))))

-- ---- in codes

letter_code : (c : ℕ) → is_letter c ≡ true → c < 16
letter_code c e = omega (arith, letter_below c e)

either : (a b : Bool) → a || b ≡ true → (a ≡ true) ⊎ (b ≡ true)
either true b e = inl refl
either false b e = inr e

-- the test of `Alike`
abbrev alike : ℕ → ℕ → ℕ → ℕ → Bool
alike j k x y = (eqb j x && eqb k y) || (eqb (inverse j) x && eqb (inverse k) y)

both : {a b c d : ℕ} → eqb a b && eqb c d ≡ true → (a ≡ b) × (c ≡ d)
both {a} {b} {c} {d} h = (eqb-true a b (and_left _ (eqb c d) h), eqb-true c d (and_right (eqb a b) _ h))

is_alike : (j k x y : ℕ) → alike j k x y ≡ true → Alike j k x y
is_alike j k x y h = ⊎_elim (λ t. inl (both t)) (λ t. inr (both t)) (either _ _ h)

-- what holds of letters c and d if the generator of d is one above that of c. One test covers all pairs of codes
abbrev rest : ℕ → ℕ → Bool
rest c d = eqb (generator c + 1) (generator (c + 1)) && alike c (c + 1) (d - 1) d

abbrev above_rule : ℕ → ℕ → Bool
above_rule c d = is_letter (c + 1) && (beq (is_inverse c) (is_inverse (c + 1)) && rest c d)

abbrev is_above : ℕ → ℕ → Bool
is_above c d = is_letter c && (is_letter d && eqb (generator d) (generator c + 1))

abbrev rule : ℕ → ℕ → Bool
rule c d = cond (is_above c d) (above_rule c d) true

rules : every (λ c. every (rule c) (values (λ d. d) 16)) (values (λ c. c) 16) ≡ true
unfolding values_from every
rules = refl

module _ (c d : ℕ) (e : is_letter c ≡ true) (e' : is_letter d ≡ true) (a : generator d ≡ generator c + 1) where
  above : above_rule c d ≡ true
  above =
      let all = every_values (λ c. every (rule c) (values (λ d. d) 16)) (λ k. k) 16 rules c (letter_code c e) in
      ap (λ (b : Bool). cond b (above_rule c d) true) (sym (and_both e (and_both e' (eq-eqb _ _ a))))
      ∙ every_values (rule c) (λ k. k) 16 all d (letter_code d e')

  -- c + 1 is a letter
  pub up_letter : is_letter (c + 1) ≡ true
  up_letter = and_left _ _ above

  signs : beq (is_inverse c) (is_inverse (c + 1)) && rest c d ≡ true
  signs = and_right (is_letter (c + 1)) _ above

  -- c + 1 has the sign of c, and the next generator
  up_sign : is_inverse c ≡ is_inverse (c + 1)
  up_sign = beq_true _ _ (and_left _ (rest c d) signs)

  up_generator : generator c + 1 ≡ generator (c + 1)
  up_generator =
      eqb-true _ _
      (and_left _ (alike c (c + 1) (d - 1) d) (and_right (beq (is_inverse c) (is_inverse (c + 1))) _ signs))

  up_alike : Alike c (c + 1) (d - 1) d
  up_alike =
      is_alike c (c + 1) (d - 1) d
      (and_right (eqb (generator c + 1) (generator (c + 1))) _
      (and_right (beq (is_inverse c) (is_inverse (c + 1))) _ signs))

  -- c and then c + 1 pass d - 1, which becomes d
  pub turned_up : SameBraid (c ∷ (c + 1) ∷ (d - 1) ∷ []) (d ∷ c ∷ (c + 1) ∷ [])
  turned_up = turned c (c + 1) (d - 1) d e up_letter up_sign (inl up_generator) up_alike

  -- c + 1 and then c pass d, which becomes d - 1
  pub turned_down : SameBraid ((c + 1) ∷ c ∷ d ∷ []) ((d - 1) ∷ (c + 1) ∷ c ∷ [])
  turned_down = turned (c + 1) c d (d - 1) up_letter e (sym up_sign) (inr up_generator) (alike_turned up_alike)
