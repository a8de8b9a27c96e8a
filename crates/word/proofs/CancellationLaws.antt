-- Laws of cancellations, moves of kind 1 one after another. Cancellations lead from a word to its reduced word. From a
-- word of letters they lead to no other irreducible word.
use Prim.Native.Nat.{ℕ, suc, ◌+◌, ◌≤◌}
use mathlib.Core.Path.{◌≡◌, refl, sym, ap, ◌∙◌}
use mathlib.Core.List.{List, [], ◌∷◌, ◌++◌}
use native.Mathlib.Omega.{arith}
use native.Mathlib.Numerals.{add-one, add-two, add-three}
use borrow.Author.Tests.{eqb-true, eq-eqb, leb-true, le-leb}
use lib.ListN.{length, take, drop, get_or, take-append-drop}
use lib.Seq.{drop-cons}
use Rattle.base.specs.Questions.{first_no}
use Rattle.base.proofs.ListLaws.{and_both, every_append, every_take, every_drop, every_get_d}
use Rattle.base.proofs.QuestionLaws.{passed_answers, answers_passed}
use Rattle.word.specs.Letters.{is_letter, inverse}
use Rattle.word.specs.Cancellation.{Cancels, done, then, removal}
use Rattle.word.specs.Reduction.{in_front, reduced, Irreducible}
use Rattle.word.proofs.LetterLaws.{Lettered}
use Rattle.word.proofs.ReductionLaws.{in_front_cases, irreducible_reduced, reduced_pair}

-- a word is its letters before a place, the two or three letters from the place on, and the rest
module _ (place : ℕ) (w : List ℕ) where
  pub around : place + 2 ≤ length w → take place w
      ++ (get_or w place 0 ∷ get_or w (place + 1) 0 ∷ drop (place + 2) w) ≡ w
  around h =
      let one = drop-cons w place 0 (omega arith) in
      let two = drop-cons w (suc place) 0 (omega arith) in
      rw (add-one, add-two, ← two, ← one) (take-append-drop place w)

  pub around_three : place + 3 ≤ length w
      → take place w ++ (get_or w place 0 ∷ get_or w (place + 1) 0 ∷ get_or w (place + 2) 0 ∷ drop (place + 3) w) ≡ w
  around_three h =
      let three = drop-cons w (suc (suc place)) 0 (omega arith) in
      rw (add-three, add-two, ← three, ← add-two) (around (omega arith))

-- a removal is accepted exactly if two letters stand from its place on and the second is the inverse of the first
module _ (place : ℕ) (w : List ℕ) where
  abbrev pub Accepted : Type 0
  Accepted = first_no (removal place w).questions ≡ 0

  accept : place + 2 ≤ length w → get_or w (place + 1) 0 ≡ inverse (get_or w place 0) → Accepted
  accept l e =
      passed_answers (removal place w).questions
      (le-leb (place + 2) (length w) l, (eq-eqb (get_or w (place + 1) 0) (inverse (get_or w place 0)) e, tt))

  pub accepted_fits : Accepted → place + 2 ≤ length w
  accepted_fits a = leb-true (place + 2) (length w) (answers_passed (removal place w).questions tt a).0

  pub accepted_inverse : Accepted → get_or w (place + 1) 0 ≡ inverse (get_or w place 0)
  accepted_inverse a =
      eqb-true (get_or w (place + 1) 0) (inverse (get_or w place 0))
      (answers_passed (removal place w).questions tt a).1.0

  -- a removal from a word of letters leaves a word of letters, and does not change the reduced word
  removal_lettered : Lettered w → Lettered (removal place w).word
  removal_lettered h =
      every_append is_letter (take place w) (drop (place + 2) w)
      ∙ and_both (every_take is_letter place w h) (every_drop is_letter (place + 2) w h)

  removal_reduced : Accepted → Lettered w → reduced (removal place w).word ≡ reduced w
  removal_reduced a h =
      let l = accepted_fits a in
      let letter = every_get_d is_letter w h place (omega arith) in
      sym (reduced_pair (take place w) (get_or w place 0) (get_or w (place + 1) 0) (drop (place + 2) w) letter
      (accepted_inverse a))
      ∙ ap reduced (around place w l)

-- cancellations may follow other cancellations
cancels_on : {w v u : List ℕ} → Cancels w v → Cancels v u → Cancels w u
cancels_on done q = q
cancels_on (then place a p) q = then place a (cancels_on p q)

-- an accepted removal is accepted one place later if a letter is put before the word
behind : (c place : ℕ) (w : List ℕ) → Accepted place w → Accepted (suc place) (c ∷ w)
behind c place w a =
    let l = accepted_fits place w a in
    let e = accepted_inverse place w a in
    accept (suc place) (c ∷ w) (omega arith) (rw add-one (rw add-one at e))

behind_word : (c place : ℕ) (w : List ℕ) → (removal (suc place) (c ∷ w)).word ≡ c ∷ (removal place w).word
behind_word c place w =
    let e : suc place + 2 ≡ suc (place + 2) = omega arith in
    ap (λ (n : ℕ). take (suc place) (c ∷ w) ++ drop n (c ∷ w)) e

cancels_behind : (c : ℕ) {w v : List ℕ} → Cancels w v → Cancels (c ∷ w) (c ∷ v)
cancels_behind c done = done
cancels_behind c (then {w = w} {v = v} place a p) =
    let on : Cancels (removal (suc place) (c ∷ w)).word (c ∷ v) = rw (behind_word c place w) (cancels_behind c p) in
    then (suc place) (behind c place w a) on

-- cancellations lead from a letter before a word to `in_front` of the two
in_front_reached : (c : ℕ) (w : List ℕ) → Cancels (c ∷ w) (in_front c w)
in_front_reached c w =
    in_front_cases (λ w v. Cancels (c ∷ w) v) c
    (λ v. then 0 (accept 0 (c ∷ inverse c ∷ v) (omega arith) refl) done)
    (λ v n. done) w

-- cancellations lead from a word to its reduced word
pub reduced_reached : (w : List ℕ) → Cancels w (reduced w)
unfolding reduced
reduced_reached [] = done
reduced_reached (c ∷ w) = cancels_on (cancels_behind c (reduced_reached w)) (in_front_reached c (reduced w))

-- cancellations lead from a word of letters to no other irreducible word
pub reduced_unique : {w v : List ℕ} → Lettered w → Cancels w v → Irreducible v → v ≡ reduced w
reduced_unique {w} h done i = sym (irreducible_reduced w i)
reduced_unique {w} h (then place a p) i = reduced_unique (removal_lettered place w h) p i ∙ removal_reduced place w a h
