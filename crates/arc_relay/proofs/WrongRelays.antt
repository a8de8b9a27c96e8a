-- Wrong ways to lay an arc anew. Each theorem is over any function that meets the contract of relaying.
use Prim.Native.Nat.{ℕ, ◌+◌, ◌-◌, ◌<◌}
use mathlib.Core.Path.{◌≡◌, refl, sym, ap, ◌∙◌, subst}
use mathlib.Core.Bool.{Bool, true, false, cond, ◌&&◌}
use mathlib.Core.List.{List, [], ◌∷◌, ◌++◌}
use mathlib.Core.Logic.{◌⊎◌, inl, inr, ⊎_elim}
use native.Mathlib.Omega.{arith}
use borrow.Author.Tests.{eqb-true, le-leb}
use lib.Dec.{eqb}
use lib.IntN.{ℤ, pos, negsuc}
use lib.ListN.{length, take}
use Rattle.base.specs.Lists.{every, equal, values, values_from, tally}
use Rattle.base.proofs.ListLaws.{and_left, and_both, true_false, equal_of, every_values}
use Rattle.word.specs.Letters.{is_letter, generator}
use Rattle.word.specs.Strands.{strands_in_order, swapped, list_after}
use Rattle.word.specs.Exponent.{exponent_sum}
use Rattle.word.proofs.LetterLaws.{letter_below}
use Rattle.braid_same.specs.SameBraid.{SameBraid}
use Rattle.braid_arcs.specs.Arcs.{beside, Arc, none, right, left, other}
use Rattle.braid_arcs.proofs.RelayingKeeps.{relays_same}
use Rattle.arc_laying.specs.Plans.{Placed, own, aside, PlacedAt, Plan}
use Rattle.arc_relay.specs.Relay.{Relayed}
use Rattle.arc_relay.proofs.RelayLaws.{relayed_relays, relayed_fewer}

-- no word gets longer
pub none_longer : {n b e p r : ℕ} {under : Bool} {plan before after : List ℕ}
    → Relayed n b e p under plan before after r
    → n < r → ⊥
none_longer w h = omega (arith, relayed_fewer w)

-- b1 b1⁻¹ b3: b1 b1⁻¹ is an arc. A program that loses b3 when it copies the letters after the arc is wrong: the count
-- is not 0, and b3 is left
pub none_lost : {plan after : List ℕ} → Relayed 3 0 2 0 false plan (0 ∷ 8 ∷ 2 ∷ []) after 0 → ⊥
none_lost (inl (e, s)) = omega arith
none_lost (inr x) = omega (arith, x.letters)

none_new : (l : List ℕ) → length l ≡ 0 → l ≡ []
none_new [] e = refl
none_new (c ∷ l) e = absurd (omega (arith, e))

pub rest_kept : {plan after : List ℕ} → Relayed 3 0 2 0 false plan (0 ∷ 8 ∷ 2 ∷ []) after 1 → take 1 after ≡ 2 ∷ []
rest_kept (inl (e, s)) = absurd (omega arith)
rest_kept (inr x) =
    let none : x.new ≡ [] = none_new x.new (omega (arith, x.letters)) in
    x.word ∙ ap (λ (l : List ℕ). l ++ (2 ∷ [])) none

-- ---- a letter of the part, with the right count

abbrev forward : ℤ → Bool
forward (pos n) = true
forward (negsuc n) = false

-- does the letter do what b4 does to the list 0 to 7 and to the exponent sum?
abbrev like_b4 : ℕ → Bool
like_b4 c =
    equal (list_after strands_in_order (c ∷ [])) (0 ∷ 1 ∷ 2 ∷ 4 ∷ 3 ∷ 5 ∷ 6 ∷ 7 ∷ []) && forward (exponent_sum (c ∷ []))

tested : every (λ c. cond (like_b4 c) (eqb c 3) true) (values (λ c. c) 15) ≡ true
unfolding every equal values_from tally swapped list_after exponent_sum
tested = refl

only_b4 : (c : ℕ) → is_letter c ≡ true → like_b4 c ≡ true → c ≡ 3
only_b4 c l e =
    let t = every_values (λ c. cond (like_b4 c) (eqb c 3) true) (λ c. c) 15 tested c (letter_below c l) in
    eqb-true c 3 (ap (λ (b : Bool). cond b (eqb c 3) true) (sym e) ∙ t)

b4_left : (l : List ℕ) → SameBraid (0 ∷ 3 ∷ 8 ∷ []) (take 1 l) → take 1 l ≡ 3 ∷ []
unfolding every equal values_from tally swapped list_after exponent_sum
b4_left [] s = absurd (true_false false (equal_of (s.lists strands_in_order refl)) refl)
b4_left (c ∷ l) s =
    ap (λ (d : ℕ). d ∷ [])
    (only_b4 c (and_left (is_letter c) true s.letters)
    (and_both (equal_of (s.lists strands_in_order refl)) (ap forward s.exponent)))

-- b1 b4 b1⁻¹ is an arc, and one letter is left of it. A program that loses this letter when it copies the new part back
-- is wrong, also with the right count: the letter is b4.
pub part_kept : {plan after : List ℕ} → Relayed 3 0 3 0 false plan (0 ∷ 3 ∷ 8 ∷ []) after 1 → take 1 after ≡ 3 ∷ []
part_kept {after = after} w = b4_left after (relays_same (relayed_relays w))

-- ---- a plan with the strand in the gap of a letter

no_letters : {under : Bool} {x y : ℕ} {others : List ℕ} → Arc under x [] y others → y ≡ x
no_letters (none h) = refl

-- the strand's own letter is beside the strand
own_letter : (under : Bool) {x y c : ℕ} → Arc under x (c ∷ []) y [] → (generator c ≡ x) ⊎ (generator c + 1 ≡ x)
own_letter true (right h a) = inl (omega arith)
own_letter false (right h a) = inl (omega arith)
own_letter true (left h a) = inr (omega arith)
own_letter false (left h a) = inr (omega arith)

other_letter : {under : Bool} {x c d : ℕ} → Arc under x (c ∷ []) x (d ∷ []) → (c ≡ beside d x) × (generator d ≡ x → ⊥)
other_letter (other d l g n a) = (refl, n)
other_letter {under = under} {d = d} (right _ a) = elim a [ ]
other_letter {under = under} {d = d} (left _ a) = elim a [ ]

-- b2 is no letter of the strand at place 0. Place 1 lies between the two strands of b2.
no_plan : Plan false 0 (1 ∷ []) (1 ∷ []) → ⊥
no_plan q = at (q.places 0 (omega arith))
  where
    go : Placed false 0 1 1 → ⊥
    go (own a) = ⊎_elim (λ e. omega (arith, e)) (λ e. omega (arith, e)) (own_letter false a)
    go (aside {d} a b) =
        let itself : beside d 0 ≡ d =
        ap (λ (t : Bool). cond t d (d - 1)) (le-leb 0 (generator d) (omega arith)) in
        (other_letter b).1 (ap generator (sym ((other_letter a).0 ∙ itself)))

    at : PlacedAt false 0 (1 ∷ []) (1 ∷ []) 0 → ⊥
    at s = go (subst (λ (x : ℕ). Placed false x 1 1) (no_letters s.before) s.placed)

-- place 1 is no plan for b2, so nothing changes; a program that lays b2 anew by it is wrong
pub no_plan_left : {after : List ℕ} {r : ℕ} → Relayed 1 0 1 0 false (1 ∷ []) (1 ∷ []) after r
    → (r ≡ 1) × (after ≡ 1 ∷ [])
no_plan_left (inl e) = e
no_plan_left (inr x) = absurd (no_plan x.planned)
