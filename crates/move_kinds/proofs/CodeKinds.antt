-- Laws of one move on a row of codes: the answer and the word of a move with two questions, the test and the word of
-- each kind, and the move that a kind names.
use Prim.Native.Nat.{ℕ, ◌+◌, ◌-◌, ◌≤◌, ◌<◌}
use mathlib.Core.Path.{◌≡◌, refl, sym, ap, ap₂, ◌∙◌}
use mathlib.Core.Bool.{Bool, true, false, cond, ◌&&◌}
use mathlib.Core.List.{List, [], ◌∷◌, ◌++◌}
use native.Mathlib.Omega.{arith}
use borrow.Author.Tests.{le-leb, lt-leb, ne_eqb}
use lib.Dec.{leb, eqb}
use lib.ListN.{length, take, drop, get_or, set}
use lib.Seq.{length-take-le, get_or-take}
use Rattle.base.specs.Questions.{◌else◌, first_no}
use Rattle.base.proofs.QuestionLaws.{passes, fails, passed_answers, granted_zero, granted_refused}
use Rattle.word.specs.Letters.{inverse, far, neighbours, same_sign}
use Rattle.word.specs.Cancellation.{Move, removal}
use Rattle.move_kinds.specs.Kinds.{exchange, braiding, insertion, unknown, inserts, move}
use Rattle.move_kinds.specs.steps.Leaving.{outcome, Makes, Holds}
use Rattle.move_kinds.proofs.CodeRows.{store_two, store_three}

-- ---- what a move leaves

module _ (m : List ℕ → Move) (row : List ℕ) (n : ℕ) where
  -- a refusal leaves the row unchanged
  makes_refused : (a : ℕ) → n ≤ length row → first_no (m (take n row)).questions ≡ a → (a ≡ 0 → ⊥)
      → Makes m n row row a n
  makes_refused a l e h =
      record {
        answer_is = sym e;
        letters_in = l;
        word_is = sym (granted_refused (m (take n row)).word (take n row) (λ z. h (sym e ∙ z)));
      }

  -- a move may be replaced by an equal move
  pub makes_as : {after : List ℕ} {a letters : ℕ} (k : List ℕ → Move) → m (take n row) ≡ k (take n row)
      → Makes k n row after a letters
      → Makes m n row after a letters
  makes_as k e r =
      record {
        answer_is = r.answer_is ∙ ap (λ (x : Move). first_no x.questions) (sym e);
        letters_in = r.letters_in;
        word_is = r.word_is ∙ ap (λ (x : Move). (outcome x (take n row)).word) (sym e);
      }

-- ---- a move with two questions: do the letters before place k exist, and is a test passed?

module _ {n : ℕ} {row : List ℕ} (held : Holds n row) (m : List ℕ → Move) (k : ℕ) {b : ℕ} {test : Bool}
    (asked : (m (take n row)).questions ≡ (leb k (length (take n row)) else 22) ∷ (test else b) ∷ []) where
  within : n ≤ length row
  within = omega (arith, held.short, held.room)

  pub refused_22 : n < k → Makes m n row row 22 n
  refused_22 h =
      makes_refused m row n 22 within
      (ap first_no asked
      ∙ fails 22 ((test else b) ∷ []) (lt-leb k (length (take n row)) (omega (arith, length-take-le n row within))))
      (omega arith)

  there : k ≤ n → leb k (length (take n row)) ≡ true
  there h = le-leb k (length (take n row)) (omega (arith, length-take-le n row within))

  pub refused_then : (b ≡ 0 → ⊥) → k ≤ n → test ≡ false → Makes m n row row b n
  refused_then z h t =
      makes_refused m row n b within (ap first_no asked ∙ passes 22 ((test else b) ∷ []) (there h) ∙ fails b [] t) z

  pub made : {after : List ℕ} {letters : ℕ} → k ≤ n → test ≡ true → length after ≡ length row → letters ≤ 10000
      → take letters after ≡ (m (take n row)).word → Makes m n row after 0 letters
  made h t s l w =
      let e : first_no (m (take n row)).questions ≡ 0 =
      ap first_no asked
      ∙ passed_answers ((leb k (length (take n row)) else 22) ∷ (test else b) ∷ []) (there h, (t, tt)) in
      record {
        answer_is = sym e;
        letters_in = omega (arith, held.room);
        word_is = w ∙ sym (granted_zero (m (take n row)).word (take n row) e);
      }

-- ---- the tests and the words of the kinds, on the codes of the row

module _ (row : List ℕ) (n place : ℕ) where
  code : (k : ℕ) → k < n → get_or (take n row) k 0 ≡ get_or row k 0
  code k h = get_or-take n row k 0 h

  -- kind 1
  pub removal_test : place + 2 ≤ n
      → eqb (get_or (take n row) (place + 1) 0) (inverse (get_or (take n row) place 0))
      ≡ eqb (get_or row (place + 1) 0) (inverse (get_or row place 0))
  removal_test h = ap₂ (λ (d c : ℕ). eqb d (inverse c)) (code (place + 1) (omega arith)) (code place (omega arith))

  -- kind 2
  pub exchange_test : place + 2 ≤ n
      → far (get_or (take n row) place 0) (get_or (take n row) (place + 1) 0)
      ≡ far (get_or row place 0) (get_or row (place + 1) 0)
  exchange_test h = ap₂ far (code place (omega arith)) (code (place + 1) (omega arith))

  pub exchange_word : place + 2 ≤ n → n ≤ length row
      → take n (set (set row place (get_or row (place + 1) 0)) (place + 1) (get_or row place 0))
      ≡ (exchange place (take n row)).word
  exchange_word h l =
      store_two row n place (get_or row (place + 1) 0) (get_or row place 0) h l
      ∙ ap₂ (λ (d c : ℕ). take place (take n row) ++ (d ∷ c ∷ drop (place + 2) (take n row)))
      (sym (code (place + 1) (omega arith))) (sym (code place (omega arith)))

  -- kind 3: the shape j k j
  abbrev shape : ℕ → ℕ → ℕ → Bool
  shape j k l = neighbours j k && same_sign j k && eqb l j

  pub braiding_test : place + 3 ≤ n
      → shape (get_or (take n row) place 0) (get_or (take n row) (place + 1) 0) (get_or (take n row) (place + 2) 0)
      ≡ shape (get_or row place 0) (get_or row (place + 1) 0) (get_or row (place + 2) 0)
  braiding_test h =
      ap (λ (j : ℕ). shape j (get_or (take n row) (place + 1) 0) (get_or (take n row) (place + 2) 0))
      (code place (omega arith))
      ∙ ap₂ (λ (k l : ℕ). shape (get_or row place 0) k l) (code (place + 1) (omega arith))
      (code (place + 2) (omega arith))

  pub braiding_word : place + 3 ≤ n → n ≤ length row
      → take n (set (set (set row place (get_or row (place + 1) 0)) (place + 1) (get_or row place 0)) (place + 2)
      (get_or row (place + 1) 0))
      ≡ (braiding place (take n row)).word
  braiding_word h l =
      store_three row n place (get_or row (place + 1) 0) (get_or row place 0) (get_or row (place + 1) 0) h l
      ∙ ap₂ (λ (k j : ℕ). take place (take n row) ++ (k ∷ j ∷ k ∷ drop (place + 3) (take n row)))
      (sym (code (place + 1) (omega arith))) (sym (code place (omega arith)))

-- kind 16 + c: room for two letters more
module _ {n : ℕ} {row : List ℕ} (held : Holds n row) where
  pub room_for : n + 2 ≤ 10000 → leb (length (take n row) + 2) 10000 ≡ true
  room_for h =
      le-leb (length (take n row) + 2) 10000
      (omega (arith, held.room, length-take-le n row (omega (arith, held.room))))

  pub no_room_for : 10000 < n + 2 → leb (length (take n row) + 2) 10000 ≡ false
  no_room_for h =
      lt-leb (length (take n row) + 2) 10000
      (omega (arith, length-take-le n row (omega (arith, held.short, held.room))))

-- ---- the move of a kind

module _ (kind place : ℕ) (w : List ℕ) where
  pub move_1 : kind ≡ 1 → move kind place w ≡ removal place w
  unfolding move
  move_1 e = rw e

  pub move_2 : kind ≡ 2 → move kind place w ≡ exchange place w
  unfolding move
  move_2 e = rw e

  pub move_3 : kind ≡ 3 → move kind place w ≡ braiding place w
  unfolding move
  move_3 e = rw e

  module _ (n1 : kind ≡ 1 → ⊥) (n2 : kind ≡ 2 → ⊥) (n3 : kind ≡ 3 → ⊥) where
    move_others : move kind place w ≡ cond (inserts kind) (insertion (kind - 16) place w) (unknown w)
    unfolding move
    move_others = rw (ne_eqb kind 1 n1, ne_eqb kind 2 n2, ne_eqb kind 3 n3)

    pub move_insert : inserts kind ≡ true → move kind place w ≡ insertion (kind - 16) place w
    move_insert e = move_others ∙ rw e

    move_unknown : inserts kind ≡ false → move kind place w ≡ unknown w
    move_unknown e = move_others ∙ rw e

-- a kind that is none of the above is refused with 21
pub unknown_21 : {n : ℕ} {row : List ℕ} (kind place : ℕ) → Holds n row → (kind ≡ 1 → ⊥) → (kind ≡ 2 → ⊥)
    → (kind ≡ 3 → ⊥) → inserts kind ≡ false
    → Makes (move kind place) n row row 21 n
unknown_21 {n} {row} kind place held n1 n2 n3 e =
    makes_as (move kind place) row n unknown (move_unknown kind place (take n row) n1 n2 n3 e)
    (makes_refused unknown row n 21 (omega (arith, held.short, held.room)) (fails 21 [] refl) (omega arith))
