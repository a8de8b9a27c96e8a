-- Laws of letters: which half bytes are letters. The inverse of a letter is a letter, and the inverse of the inverse is
-- the letter. Laws of words of letters: a letter is put before a word, or its first letter is taken away.
use Prim.Native.Nat.{ℕ, ◌+◌, ◌/◌, ◌%◌, ◌≤◌, ◌<◌}
use mathlib.Core.Path.{◌≡◌, refl, sym, ap, ap₂, ◌∙◌}
use mathlib.Core.Bool.{Bool, true, false, cond, not, ◌&&◌, ◌||◌, beq}
use mathlib.Core.List.{List, ◌∷◌}
use mathlib.Core.Logic.{◌⊎◌, inl, inr, ⊎_elim}
use native.Mathlib.Omega.{arith}
use borrow.Author.Tests.{leb-true, eqb-true}
use lib.Dec.{leb, eqb}
use Rattle.base.specs.Lists.{every, values_from, values}
use Rattle.base.proofs.ListLaws.{and_left, and_right, and_both, beq_true, every_values}
use Rattle.word.specs.Letters.{is_letter, is_inverse, generator, inverse, far, neighbours}

-- if a || b is true, a is true or b is true
either : (a b : Bool) → (a || b) ≡ true → (a ≡ true) ⊎ (b ≡ true)
either true b e = inl refl
either false b e = inr e

-- a letter is one of b1 to b7, or an inverse of one
pub letter_cases : (c : ℕ) → is_letter c ≡ true → (c ≤ 6) ⊎ ((8 ≤ c) × (c ≤ 14))
letter_cases c e =
    ⊎_elim (λ p. inl (leb-true c 6 p))
    (λ p. inr (leb-true 8 c (and_left (leb 8 c) (leb c 14) p), leb-true c 14 (and_right (leb 8 c) (leb c 14) p)))
    (either (leb c 6) (leb 8 c && leb c 14) e)

pub letter_below : (c : ℕ) → is_letter c ≡ true → c < 15
letter_below c e = ⊎_elim (λ p. omega arith) (λ p. omega arith) (letter_cases c e)

-- the generator's number less one is below 7
pub generator_below : (c : ℕ) → is_letter c ≡ true → generator c < 7
generator_below c e = ⊎_elim (λ p. omega arith) (λ p. omega arith) (letter_cases c e)

-- a half byte is a letter exactly if its low three bits are not all 1. They are all 1 in 7 and 15. One test covers all
-- sixteen half bytes
abbrev code_rule : ℕ → Bool
code_rule h = beq (not (eqb (h % 8) 7)) (is_letter h)

code_rules : every code_rule (values (λ h. h) 16) ≡ true
unfolding values_from every
code_rules = refl

half_letter : (h : ℕ) → h < 16 → not (eqb (h % 8) 7) ≡ is_letter h
half_letter h p = beq_true _ _ (every_values code_rule (λ k. k) 16 code_rules h p)

-- both half bytes of a byte are letters exactly if neither has its low three bits all 1
pub byte_letters : (b : ℕ) → b < 256
    → not (eqb (b / 16 % 8) 7) && not (eqb (b % 8) 7) ≡ is_letter (b / 16) && is_letter (b % 16)
byte_letters b p =
    let low : b % 8 ≡ b % 16 % 8 = omega arith in
    ap₂ (λ (x y : Bool). x && y) (half_letter (b / 16) (omega arith))
    (ap (λ (r : ℕ). not (eqb r 7)) low ∙ half_letter (b % 16) (omega arith))

-- the inverse of a letter is a letter with the same generator and the other sign. The inverse of the inverse is the
-- letter. One test covers all sixteen codes
abbrev inverse_rule : ℕ → Bool
inverse_rule c =
    is_letter (inverse c)
    && (eqb (inverse (inverse c)) c
    && (eqb (generator (inverse c)) (generator c) && beq (is_inverse (inverse c)) (not (is_inverse c))))

inverse_rules : every (λ c. cond (is_letter c) (inverse_rule c) true) (values (λ c. c) 16) ≡ true
unfolding values_from every
inverse_rules = refl

module _ (c : ℕ) (e : is_letter c ≡ true) where
  rule : inverse_rule c ≡ true
  rule =
      ap (λ (b : Bool). cond b (inverse_rule c) true) (sym e)
      ∙ every_values (λ c. cond (is_letter c) (inverse_rule c) true) (λ k. k) 16 inverse_rules c
      (omega (arith, letter_below c e))

  pub inverse_letter : is_letter (inverse c) ≡ true
  inverse_letter = and_left _ _ rule

  pub inverse_twice : inverse (inverse c) ≡ c
  inverse_twice = eqb-true _ _ (and_left _ _ (and_right (is_letter (inverse c)) _ rule))

  pub inverse_generator : generator (inverse c) ≡ generator c
  inverse_generator =
      eqb-true _ _ (and_left _ _ (and_right (eqb (inverse (inverse c)) c) _ (and_right (is_letter (inverse c)) _ rule)))

  pub inverse_sign : is_inverse (inverse c) ≡ not (is_inverse c)
  inverse_sign =
      beq_true _ _
      (and_right (eqb (generator (inverse c)) (generator c)) _
      (and_right (eqb (inverse (inverse c)) c) _ (and_right (is_letter (inverse c)) _ rule)))

-- the generators differ by at least 2 (`Apart`), or by 1 (`Neighbours`)
abbrev pub Apart : ℕ → ℕ → Type 0
Apart c d = (generator c + 2 ≤ generator d) ⊎ (generator d + 2 ≤ generator c)

pub far_apart : (c d : ℕ) → far c d ≡ true → Apart c d
far_apart c d e =
    ⊎_elim (λ h. inl (leb-true (generator c + 2) (generator d) h))
    (λ h. inr (leb-true (generator d + 2) (generator c) h))
    (either (leb (generator c + 2) (generator d)) (leb (generator d + 2) (generator c)) e)

abbrev pub Neighbours : ℕ → ℕ → Type 0
Neighbours j k = (generator j + 1 ≡ generator k) ⊎ (generator k + 1 ≡ generator j)

pub beside : (j k : ℕ) → neighbours j k ≡ true → Neighbours j k
beside j k e =
    ⊎_elim (λ h. inl (eqb-true (generator j + 1) (generator k) h))
    (λ h. inr (eqb-true (generator k + 1) (generator j) h))
    (either (eqb (generator j + 1) (generator k)) (eqb (generator k + 1) (generator j)) e)

-- every code of the word is a letter
abbrev pub Lettered : List ℕ → Type 0
Lettered w = every is_letter w ≡ true

pub lettered_cons : (c : ℕ) (w : List ℕ) → Lettered (c ∷ w) → (is_letter c ≡ true) × Lettered w
unfolding every
lettered_cons c w e = (and_left (is_letter c) (every is_letter w) e, and_right (is_letter c) (every is_letter w) e)

pub cons_lettered : (c : ℕ) (w : List ℕ) → is_letter c ≡ true → Lettered w → Lettered (c ∷ w)
unfolding every
cons_lettered c w e h = and_both e h
