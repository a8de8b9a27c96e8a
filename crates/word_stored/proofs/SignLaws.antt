-- Signs and generators of letters: a letter is its sign and its generator, and a sign with a generator number below 7
-- is a letter. The same holds of rows.
use Prim.Native.Nat.{ℕ, zero, suc, ◌/◌, ◌%◌, ◌<◌}
use mathlib.Core.Path.{◌≡◌, refl, sym, ap, ap₂, ◌∙◌}
use mathlib.Core.Bool.{Bool, true, false, cond, not, ◌&&◌, beq}
use mathlib.Core.List.{List, [], ◌∷◌, map, zip_with}
use native.Mathlib.Nat.{mod-lt}
use native.Mathlib.Omega.{arith}
use borrow.Author.Tests.{eqb-true}
use lib.Dec.{eqb}
use lib.ListN.{length}
use Rattle.base.specs.Lists.{every, values_from, values}
use Rattle.base.specs.Packing.{Below}
use Rattle.base.proofs.ListLaws.{and_left, and_right, beq_true, every_values}
use Rattle.word.specs.Letters.{is_inverse, is_letter, generator}
use Rattle.word.proofs.LetterLaws.{letter_below, Lettered, lettered_cons}
use Rattle.word_stored.specs.Stored.{sign, signs, generators, letter_of}

-- ---- one letter

-- a code is a letter exactly if its low three bits are not 7, and the sign of a letter is its high bit. One test covers
-- all sixteen codes
abbrev sign_rule : ℕ → Bool
sign_rule c = beq (is_letter c) (not (eqb (c % 8) 7)) && cond (is_letter c) (eqb (sign c) (c / 8)) true

sign_rules : every sign_rule (values (λ c. c) 16) ≡ true
unfolding values_from every
sign_rules = refl

module _ (c : ℕ) (h : c < 16) where
  rule : sign_rule c ≡ true
  rule = every_values sign_rule (λ k. k) 16 sign_rules c h

  is_letter_lem : is_letter c ≡ not (eqb (c % 8) 7)
  is_letter_lem = beq_true _ _ (and_left (beq (is_letter c) (not (eqb (c % 8) 7))) _ rule)

  high_sign : is_letter c ≡ true → sign c ≡ c / 8
  high_sign e =
      eqb-true (sign c) (c / 8)
      (sym (ap (λ (b : Bool). cond b (eqb (sign c) (c / 8)) true) e)
      ∙ and_right (beq (is_letter c) (not (eqb (c % 8) 7))) _ rule)

sign_high : (c : ℕ) → is_letter c ≡ true → sign c ≡ c / 8
sign_high c e = high_sign c (omega (arith, letter_below c e)) e

letter_whole : (c : ℕ) → is_letter c ≡ true → letter_of (sign c) (generator c) ≡ c
letter_whole c e = let s = sign_high c e in omega arith

-- a sign bit and a number of three bits
module _ (s g : ℕ) (hs : s < 2) (hg : g < 8) where
  three_bits : letter_of s g % 8 ≡ g
  three_bits = omega arith

  letter_test : is_letter (letter_of s g) ≡ not (eqb g 7)
  letter_test = is_letter_lem (letter_of s g) (omega arith) ∙ ap (λ (k : ℕ). not (eqb k 7)) three_bits

  sign_back : not (eqb g 7) ≡ true → sign (letter_of s g) ≡ s
  sign_back e = let h = sign_high (letter_of s g) (letter_test ∙ e) in omega arith

sign_below : (c : ℕ) → sign c < 2
sign_below c = at (is_inverse c)
  where
    at : (b : Bool) → ◌<◌ (cond b 1 0) 2
    at true = omega arith
    at false = omega arith

-- ---- rows of letters

pub signs_below : (cs : List ℕ) → Below 2 (signs cs)
signs_below [] k = omega arith
signs_below (c ∷ cs) zero = sign_below c
signs_below (c ∷ cs) (suc k) = signs_below cs k

pub generators_below : (cs : List ℕ) → Below 8 (generators cs)
generators_below [] k = omega arith
generators_below (c ∷ cs) zero = mod-lt c (omega arith)
generators_below (c ∷ cs) (suc k) = generators_below cs k

-- the signs of letters are their high bits
pub signs_high : (cs : List ℕ) → Lettered cs → signs cs ≡ map (λ c. c / 8) cs
signs_high [] e = refl
signs_high (c ∷ cs) e =
    let l = lettered_cons c cs e in
    ap₂ (λ (x : ℕ) (xs : List ℕ). x ∷ xs) (sign_high c l.0) (signs_high cs l.1)

pub letters_whole : (cs : List ℕ) → Lettered cs → zip_with letter_of (signs cs) (generators cs) ≡ cs
unfolding zip_with
letters_whole [] e = refl
letters_whole (c ∷ cs) e =
    let l = lettered_cons c cs e in
    ap₂ (λ (x : ℕ) (xs : List ℕ). x ∷ xs) (letter_whole c l.0) (letters_whole cs l.1)

-- the generators of letters are not 7
pub generators_good : (cs : List ℕ) → Lettered cs → every (λ g. not (eqb g 7)) (generators cs) ≡ true
unfolding every
generators_good [] e = refl
generators_good (c ∷ cs) e =
    let l = lettered_cons c cs e in
    ap₂ (λ (x y : Bool). x && y) (sym (is_letter_lem c (omega (arith, letter_below c l.0))) ∙ l.0)
    (generators_good cs l.1)

-- ---- rows of signs and of numbers of three bits, equally long

abbrev pub has_no_seven : List ℕ → Bool
has_no_seven gs = every (λ g. not (eqb g 7)) gs

pub length_letters : (ss gs : List ℕ) → length ss ≡ length gs → length (zip_with letter_of ss gs) ≡ length gs
unfolding zip_with
length_letters [] [] e = refl
length_letters [] (g ∷ gs) e = e
length_letters (s ∷ ss) [] e = refl
length_letters (s ∷ ss) (g ∷ gs) e = ap suc (length_letters ss gs (omega arith))

pub letters_test : (ss gs : List ℕ) → length ss ≡ length gs → Below 2 ss → Below 8 gs
    → every is_letter (zip_with letter_of ss gs) ≡ has_no_seven gs
unfolding zip_with every
letters_test [] [] e hs hg = refl
letters_test [] (g ∷ gs) e hs hg = absurd (omega arith)
letters_test (s ∷ ss) [] e hs hg = refl
letters_test (s ∷ ss) (g ∷ gs) e hs hg =
    ap₂ (λ (x y : Bool). x && y) (letter_test s g (hs 0) (hg 0))
    (letters_test ss gs (omega arith) (λ k. hs (suc k)) (λ k. hg (suc k)))

pub signs_back : (ss gs : List ℕ) → length ss ≡ length gs → Below 2 ss → Below 8 gs → has_no_seven gs ≡ true
    → signs (zip_with letter_of ss gs) ≡ ss
unfolding zip_with every
signs_back [] gs e hs hg n = refl
signs_back (s ∷ ss) [] e hs hg n = absurd (omega arith)
signs_back (s ∷ ss) (g ∷ gs) e hs hg n =
    ap₂ (λ (x : ℕ) (xs : List ℕ). x ∷ xs) (sign_back s g (hs 0) (hg 0) (and_left (not (eqb g 7)) (has_no_seven gs) n))
    (signs_back ss gs (omega arith) (λ k. hs (suc k)) (λ k. hg (suc k)) (and_right (not (eqb g 7)) (has_no_seven gs) n))

pub generators_back : (ss gs : List ℕ) → length ss ≡ length gs → Below 2 ss → Below 8 gs
    → generators (zip_with letter_of ss gs) ≡ gs
unfolding zip_with
generators_back [] [] e hs hg = refl
generators_back [] (g ∷ gs) e hs hg = absurd (omega arith)
generators_back (s ∷ ss) [] e hs hg = refl
generators_back (s ∷ ss) (g ∷ gs) e hs hg =
    ap₂ (λ (x : ℕ) (xs : List ℕ). x ∷ xs) (three_bits s g (hs 0) (hg 0))
    (generators_back ss gs (omega arith) (λ k. hs (suc k)) (λ k. hg (suc k)))
