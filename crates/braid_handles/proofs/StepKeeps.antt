-- A step leaves the same braid, and so do any number of steps. The first end of the handle passes the letters between,
-- one by one, by far commutation, the braid relation and cancellation alone, and then meets its inverse.
use Prim.Native.Nat.{ℕ, zero, suc, ◌+◌, ◌-◌, ◌≤◌, ◌<◌}
use mathlib.Core.Path.{◌≡◌, refl, sym, ap, subst, ◌∙◌}
use mathlib.Core.Bool.{Bool, true, false, cond}
use mathlib.Core.List.{List, [], ◌∷◌, ◌++◌, append_assoc, append-nil}
use mathlib.Core.Logic.{inl, inr}
use native.Mathlib.Decide.{dec_le, dec_lt}
use native.Mathlib.Numerals.{add-one}
use native.Mathlib.Omega.{arith}
use borrow.Author.Tests.{ltb-true, eqb-true, eqb-false}
use lib.Dec.{eqb}
use lib.ListN.{length, take, drop, get_or, take-append-drop}
use lib.Seq.{split_at, drop-cons, drop-drop}
use Rattle.base.specs.Lists.{every}
use Rattle.base.proofs.ListLaws.{and_left, and_right, every_get_d, every_take, every_drop}
use Rattle.word.specs.Letters.{is_letter, generator, inverse}
use Rattle.word.proofs.LetterLaws.{Apart, Lettered, lettered_cons}
use Rattle.braid_same.specs.SameBraid.{SameBraid}
use Rattle.braid_same.proofs.Laws.{same_lettered, same_none, same_then, same_turned, same_append, same_inside}
use Rattle.braid_same.proofs.Relations.{cancelled, exchanged}
use Rattle.braid_same.proofs.Turns.{cancelled_back, up_letter, turned_down}
use Rattle.braid_handles.specs.Handles.{between, avoids, is_handle, start_of, earliest_end, has_handle}
use Rattle.braid_handles.specs.Handles.{conjugated_letter, conjugated, handle_reduced, stepped, after_steps}
use Rattle.braid_handles.proofs.Starts.{avoids_own, avoids_less, handle_ends, start_handle}
use Rattle.braid_handles.proofs.HandleLaws.{earliest_ends}

-- ---- the letter c passes one letter

-- a letter d of the generator after c's: c passes it, and d becomes d - 1 between the inverse of c + 1 and c + 1
above_passes : (c d : ℕ) → is_letter c ≡ true → is_letter d ≡ true → generator d ≡ generator c + 1
    → SameBraid (c ∷ d ∷ []) (inverse (c + 1) ∷ (d - 1) ∷ (c + 1) ∷ c ∷ [])
above_passes c d e e' a =
    same_then
    (same_turned (same_inside [] (c ∷ d ∷ []) (cancelled_back (c + 1) (up_letter c d e e' a))))
    (same_inside (inverse (c + 1) ∷ []) [] (turned_down c d e e' a))

-- any other letter that may stand between the ends is far from c
others_apart : (c d : ℕ) → avoids c d ≡ true → (generator d ≡ generator c + 1 → ⊥) → Apart c d
others_apart c d h n = go (dec_le (generator c + 2) (generator d)) (dec_le (generator d + 2) (generator c))
  where
    go : Dec (generator c + 2 ≤ generator d) → Dec (generator d + 2 ≤ generator c) → Apart c d
    go (yes a) b = inl a
    go (no a) (yes b) = inr b
    go (no a) (no b) = absurd (four (dec_lt (generator d) (generator c)) (dec_lt (generator c) (generator d)))
      where
        four : Dec (generator d < generator c) → Dec (generator c < generator d) → ⊥
        four (yes x) y = avoids_less c d h (omega arith)
        four (no x) (yes y) = n (omega arith)
        four (no x) (no y) = avoids_own c d h (omega arith)

letter_passes : (c d : ℕ) → is_letter c ≡ true → is_letter d ≡ true → avoids c d ≡ true
    → SameBraid (c ∷ d ∷ []) (conjugated_letter c d ++ (c ∷ []))
letter_passes c d e e' h = go (eqb (generator d) (generator c + 1)) refl
  where
    go : (b : Bool) → eqb (generator d) (generator c + 1) ≡ b
        → SameBraid (c ∷ d ∷ [])
        (cond b (inverse (c + 1) ∷ (d - 1) ∷ (c + 1) ∷ []) (d ∷ []) ++ (c ∷ []))
    go true a = above_passes c d e e' (eqb-true _ _ a)
    go false a = exchanged c d e e' (others_apart c d h (eqb-false _ _ a))

-- ---- the letter c passes all letters between

passes : (c : ℕ) (m : List ℕ) → is_letter c ≡ true → Lettered m → every (avoids c) m ≡ true
    → SameBraid (c ∷ m) (conjugated c m ++ (c ∷ []))
unfolding every conjugated
passes c [] e l h = same_none (c ∷ [])
passes c (d ∷ m) e l h =
    let (e', l') = lettered_cons d m l in
    let one = letter_passes c d e e' (and_left (avoids c d) (every (avoids c) m) h) in
    let rest = passes c m e l' (and_right (avoids c d) (every (avoids c) m) h) in
    let x : List ℕ = conjugated_letter c d in
    same_then (same_inside [] m one)
    (subst (λ (t : List ℕ). SameBraid t (x ++ conjugated c m ++ (c ∷ []))) (sym (append_assoc x (c ∷ []) m))
    (subst (λ (t : List ℕ). SameBraid (x ++ (c ∷ m)) t) (sym (append_assoc x (conjugated c m) (c ∷ [])))
    (same_append (same_none x) rest)))

-- a handle is the same braid as its letters between, replaced
pub handle_same : (c : ℕ) (m : List ℕ) → is_letter c ≡ true → Lettered m → every (avoids c) m ≡ true
    → SameBraid (c ∷ m ++ (inverse c ∷ [])) (conjugated c m)
handle_same c m e l h =
    let x : List ℕ = conjugated c m in
    same_then (same_append (passes c m e l h) (same_none (inverse c ∷ [])))
    (subst (λ (t : List ℕ). SameBraid t x) (sym (append_assoc x (c ∷ []) (inverse c ∷ [])))
    (subst (λ (t : List ℕ). SameBraid (x ++ (c ∷ inverse c ∷ [])) t) (append-nil x)
    (same_append (same_none x) (cancelled c e))))

-- ---- a handle inside a word

-- the word in parts: before the handle, the handle, after it
handle_parts : (p q : ℕ) (w : List ℕ) → p < q → q < length w
    → take p w ++ ((get_or w p 0 ∷ between p q w ++ (get_or w q 0 ∷ [])) ++ drop (q + 1) w) ≡ w
handle_parts p q w h l =
    let n : ℕ = q - (p + 1) in
    let s : p + 1 + n ≡ q = omega arith in
    let m : List ℕ = between p q w in
    let after : drop n (drop (p + 1) w) ≡ get_or w q 0 ∷ drop (q + 1) w =
    drop-drop n (p + 1) w
    ∙ ap (λ (k : ℕ). drop k w) s
    ∙ drop-cons w q 0 l
    ∙ ap (λ (k : ℕ). get_or w q 0 ∷ drop k w) (sym (add-one q)) in
    let rest : m ++ (get_or w q 0 ∷ []) ++ drop (q + 1) w ≡ drop (p + 1) w =
    append_assoc m (get_or w q 0 ∷ []) (drop (q + 1) w)
    ∙ ap (λ (t : List ℕ). m ++ t) (sym after)
    ∙ take-append-drop n (drop (p + 1) w) in
    ap (λ (t : List ℕ). take p w ++ (get_or w p 0 ∷ t)) (rest ∙ ap (λ (k : ℕ). drop k w) (add-one p))
    ∙ sym (split_at w p 0 (omega arith))

lettered_at : (w : List ℕ) → Lettered w → (p : ℕ) → p < length w → is_letter (get_or w p 0) ≡ true
lettered_at w e p l = every_get_d is_letter w e p l

lettered_between : (p q : ℕ) (w : List ℕ) → Lettered w → Lettered (between p q w)
lettered_between p q w e = every_take is_letter (q - (p + 1)) (drop (p + 1) w) (every_drop is_letter (p + 1) w e)

-- a handle from p to q taken out
handle_reduced_same : (p q : ℕ) (w : List ℕ) → Lettered w → p < q → q < length w → is_handle w p q ≡ true
    → SameBraid w (handle_reduced p q w)
unfolding is_handle
handle_reduced_same p q w e h l t =
    let c : ℕ = get_or w p 0 in
    let m : List ℕ = between p q w in
    let same =
    handle_same c m (lettered_at w e p (omega arith)) (lettered_between p q w e)
    (and_right (eqb (get_or w q 0) (inverse c)) (every (avoids c) m) t) in
    subst (λ (v : List ℕ). SameBraid v (handle_reduced p q w))
    (ap (λ (d : ℕ). take p w ++ ((c ∷ m ++ (d ∷ [])) ++ drop (q + 1) w)) (sym (handle_ends w e q l p h t))
    ∙ handle_parts p q w h l)
    (same_inside (take p w) (drop (q + 1) w) same)

-- ---- steps

pub step_same : (w : List ℕ) → Lettered w → SameBraid w (stepped w)
unfolding stepped
step_same w e = go (has_handle w) refl
  where
    go : (b : Bool) → has_handle w ≡ b
        → SameBraid w (cond b (handle_reduced (start_of w (earliest_end w)) (earliest_end w) w) w)
    go false h = same_none w
    go true h =
        let q : ℕ = earliest_end w in
        let l : q < length w = ltb-true q (length w) h in
        let t = earliest_ends w h in
        handle_reduced_same (start_of w q) q w e (ltb-true (start_of w q) q t) l (start_handle w e q l t)

pub steps_same : (n : ℕ) (w : List ℕ) → Lettered w → SameBraid w (after_steps n w)
unfolding after_steps
steps_same zero w e = same_none w
steps_same (suc n) w e = let s = step_same w e in same_then s (steps_same n (stepped w) (same_lettered s e))

-- a word of letters stays one
pub step_lettered : (w : List ℕ) → Lettered w → Lettered (stepped w)
step_lettered w e = same_lettered (step_same w e) e

pub steps_lettered : (n : ℕ) (w : List ℕ) → Lettered w → Lettered (after_steps n w)
steps_lettered n w e = same_lettered (steps_same n w e) e
