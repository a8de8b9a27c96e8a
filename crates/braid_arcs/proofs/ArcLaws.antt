-- Laws of the strand's own letters, and of arcs: an arc begins and ends at a place of 0 to 7, and arcs follow each
-- other.
use Prim.Native.Nat.{ℕ, suc, ◌+◌, ◌-◌, ◌%◌, ◌≤◌, ◌<◌}
use mathlib.Core.Path.{◌≡◌, refl, sym, ap, ◌∙◌}
use mathlib.Core.Bool.{Bool, true, false, ◌&&◌, ◌||◌}
use mathlib.Core.List.{List, ◌++◌}
use native.Mathlib.Omega.{arith}
use borrow.Author.Tests.{eqb-true, ne_eqb}
use lib.Dec.{eqb}
use Rattle.base.specs.Lists.{every, values_from, values}
use Rattle.base.proofs.ListLaws.{and_left, and_right, every_values}
use Rattle.word.specs.Letters.{is_letter, generator, inverse}
use Rattle.word.proofs.LetterLaws.{letter_below}
use Rattle.braid_arcs.specs.Arcs.{rightward, leftward, Arc, none, right, left, other}

-- ---- the strand's own letters. One test for each sign covers the seven places from which the strand steps right

abbrev rest : Bool → ℕ → Bool
rest under x = eqb (generator (rightward under x)) x && eqb (leftward under x) (inverse (rightward under x))

abbrev rule : Bool → ℕ → Bool
rule under x = is_letter (rightward under x) && rest under x

rules : (under : Bool) → every (rule under) (values (λ x. x) 7) ≡ true
unfolding values_from every
rules true = refl
rules false = refl

module _ (under : Bool) (x : ℕ) (h : x < 7) where
  holds : rule under x ≡ true
  holds = every_values (rule under) (λ k. k) 7 (rules under) x h

  pub right_letter : is_letter (rightward under x) ≡ true
  right_letter = and_left _ (rest under x) holds

  pub right_generator : generator (rightward under x) ≡ x
  right_generator = eqb-true _ _ (and_left _ _ (and_right (is_letter (rightward under x)) _ holds))

  pub left_inverse : leftward under x ≡ inverse (rightward under x)
  left_inverse =
      eqb-true _ _ (and_right (eqb (generator (rightward under x)) x) _ (and_right (is_letter
      (rightward under x)) _ holds))

pub right_next : (under : Bool) (x : ℕ) → rightward under (suc x) ≡ rightward under x + 1
right_next true x = omega arith
right_next false x = omega arith

-- ---- letters of other strands

-- a code is a letter if its low three bits are not all 1. One test covers the sixteen codes
codes_tested : every (λ c. eqb (c % 8) 7 || is_letter c) (values (λ c. c) 16) ≡ true
unfolding values_from every
codes_tested = refl

is_letter_lem : (c : ℕ) → c < 16 → (c % 8 ≡ 7 → ⊥) → is_letter c ≡ true
is_letter_lem c h n =
    ap (λ (b : Bool). b || is_letter c) (sym (ne_eqb (c % 8) 7 n))
    ∙ every_values (λ c. eqb (c % 8) 7 || is_letter c) (λ k. k) 16 codes_tested c h

-- the letter of the generator before that of a letter
pub lower : (d : ℕ) → is_letter d ≡ true → 0 < generator d → is_letter (d - 1) ≡ true
lower d e g = is_letter_lem (d - 1) (omega (arith, letter_below d e)) (λ s. omega arith)

-- ---- arcs

pub arc_start : {under : Bool} {x y : ℕ} {part others : List ℕ} → Arc under x part y others → x ≤ 7
arc_start (none h) = h
arc_start (right h a) = omega arith
arc_start (left h a) = omega arith
arc_start (other d e g n a) = arc_start a

pub arc_end : {under : Bool} {x y : ℕ} {part others : List ℕ} → Arc under x part y others → y ≤ 7
arc_end (none h) = h
arc_end (right h a) = arc_end a
arc_end (left h a) = arc_end a
arc_end (other d e g n a) = arc_end a

-- one arc after another
pub arc_on : {under : Bool} {x y z : ℕ} {p q l m : List ℕ} → Arc under x p y l → Arc under y q z m
    → Arc under x (p ++ q) z (l ++ m)
arc_on (none h) b = b
arc_on (right h a) b = right h (arc_on a b)
arc_on (left h a) b = left h (arc_on a b)
arc_on (other d e g n a) b = other d e g n (arc_on a b)
