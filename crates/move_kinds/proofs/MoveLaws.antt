-- What one move keeps, whatever its kind and its place, if all its questions are passed: the new word is the same braid
-- and has at most 10,000 letters.
use Prim.Native.Nat.{ℕ, ◌+◌, ◌-◌, ◌≤◌}
use mathlib.Core.Path.{◌≡◌, refl, ap, subst}
use mathlib.Core.Bool.{Bool, true, false, cond, ◌&&◌}
use mathlib.Core.List.{List, [], ◌∷◌, ◌++◌}
use native.Mathlib.Omega.{arith}
use borrow.Author.Tests.{leb-true, eqb-true}
use lib.Dec.{leb, eqb}
use lib.ListN.{length, take, drop, get_or, length-append, length-take, length-drop, take-append-drop}
use Rattle.base.specs.Questions.{first_no}
use Rattle.base.proofs.QuestionLaws.{answers_passed}
use Rattle.base.proofs.ListLaws.{and_left, and_right, every_get_d, beq_true}
use Rattle.word.specs.Letters.{is_letter, is_inverse, inverse, neighbours, same_sign}
use Rattle.word.specs.Cancellation.{Move, removal}
use Rattle.word.proofs.LetterLaws.{Lettered, far_apart, beside}
use Rattle.word.proofs.CancellationLaws.{around, around_three}
use Rattle.braid_same.specs.SameBraid.{SameBraid}
use Rattle.braid_same.proofs.Laws.{same_turned, same_inside}
use Rattle.braid_same.proofs.Relations.{cancelled, exchanged, braided}
use Rattle.braid_same.proofs.Cancelling.{same_at, removal_same}
use Rattle.move_kinds.specs.Kinds.{exchange, braiding, inserts, insertion, unknown, move}

-- what is kept from the word w to the word v
pub record Kept (w v : List ℕ) : Type 0 where
  pub same : SameBraid w v
  pub short : length v ≤ 10000

-- what an accepted move keeps of the word w
abbrev Keeps : List ℕ → Move → Type 0
Keeps w m = first_no m.questions ≡ 0 → Kept w m.word

module _ (w : List ℕ) (e : Lettered w) (few : length w ≤ 10000) where
  letter : (k : ℕ) → k + 1 ≤ length w → is_letter (get_or w k 0) ≡ true
  letter k h = every_get_d is_letter w e k (omega arith)

  module _ (place : ℕ) where
    -- the part x, which is the n letters from the place on, is replaced by y
    replaced : (n : ℕ) (x y : List ℕ) → take place w ++ (x ++ drop (place + n) w) ≡ w → SameBraid x y
        → length y ≤ length x
        → Kept w (take place w ++ (y ++ drop (place + n) w))
    replaced n x y at s l =
        record {
          same = same_at w place n at s;
          short = simp length-append (let h = simp length-append at (ap length at) in omega arith);
        }

    removal_keeps : Keeps w (removal place w)
    removal_keeps a =
        record { same = removal_same place w a e; short = simp (length-append, length-take, length-drop) (omega arith) }

    exchange_keeps : Keeps w (exchange place w)
    exchange_keeps a =
        let p = answers_passed (exchange place w).questions tt a in
        let c : ℕ = get_or w place 0 in
        let d : ℕ = get_or w (place + 1) 0 in
        let fits : place + 2 ≤ length w = leb-true (place + 2) (length w) p.0 in
        replaced 2 (c ∷ d ∷ []) (d ∷ c ∷ []) (around place w fits)
        (exchanged c d (letter place (omega arith)) (letter (place + 1) (omega arith)) (far_apart c d p.1.0))
        (omega arith)

    braiding_keeps : Keeps w (braiding place w)
    braiding_keeps a =
        let p = answers_passed (braiding place w).questions tt a in
        let j : ℕ = get_or w place 0 in
        let k : ℕ = get_or w (place + 1) 0 in
        let l : ℕ = get_or w (place + 2) 0 in
        let fits : place + 3 ≤ length w = leb-true (place + 3) (length w) p.0 in
        let shape : neighbours j k && same_sign j k ≡ true =
        and_left (neighbours j k && same_sign j k) (eqb l j) p.1.0 in
        let again : l ≡ j = eqb-true l j (and_right (neighbours j k && same_sign j k) (eqb l j) p.1.0) in
        let signs : is_inverse j ≡ is_inverse k =
        beq_true (is_inverse j) (is_inverse k) (and_right (neighbours j k) (same_sign j k) shape) in
        let part : SameBraid (j ∷ k ∷ l ∷ []) (k ∷ j ∷ k ∷ []) =
        rw again
        (braided j k (letter place (omega arith)) (letter (place + 1) (omega arith)) signs
        (beside j k (and_left (neighbours j k) (same_sign j k) shape))) in
        replaced 3 (j ∷ k ∷ l ∷ []) (k ∷ j ∷ k ∷ []) (around_three place w fits) part (omega arith)

    insertion_keeps : (c : ℕ) → is_letter c ≡ true → Keeps w (insertion c place w)
    insertion_keeps c ec a =
        let p = answers_passed (insertion c place w).questions tt a in
        let u : List ℕ = take place w in
        let v : List ℕ = drop place w in
        let room : length w + 2 ≤ 10000 = leb-true (length w + 2) 10000 p.1.0 in
        let whole : u ++ v ≡ w = take-append-drop place w in
        record {
          same =
              subst (λ (t : List ℕ). SameBraid t (u ++ (c ∷ inverse c ∷ v))) whole
              (same_inside u v (same_turned (cancelled c ec)));
          short = simp (length-append, length-take, length-drop) (omega arith);
        }

    unknown_keeps : Keeps w (unknown w)
    unfolding first_no
    unknown_keeps a = absurd (omega arith)

    -- a test chooses one of two moves: what both moves keep, the chosen one keeps
    chosen : (b : Bool) (m n : Move) → (b ≡ true → Keeps w m) → Keeps w n → Keeps w (cond b m n)
    chosen true m n f g = f refl
    chosen false m n f g = g

    pub move_kept : (kind : ℕ) → first_no (move kind place w).questions ≡ 0 → Kept w (move kind place w).word
    unfolding move
    move_kept kind =
        chosen (eqb kind 1) (removal place w) _ (λ t. removal_keeps)
        (chosen (eqb kind 2) (exchange place w) _ (λ t. exchange_keeps)
        (chosen (eqb kind 3) (braiding place w) _ (λ t. braiding_keeps)
        (chosen (inserts kind) (insertion (kind - 16) place w) (unknown w)
        (λ t. insertion_keeps (kind - 16) (and_right (leb 16 kind) (is_letter (kind - 16)) t)) unknown_keeps)))
