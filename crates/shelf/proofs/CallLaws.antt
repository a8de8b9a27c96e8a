-- Laws of a call. A refusal leaves the shelf, and work that acts is done. Load, clear, judge and a new round each give
-- the answer of their questions in order: 30 for whoever has no slot, 31 where no key is held, then those of the key,
-- or the verdict, or 36 in the verdict's place.
use Prim.Native.Nat.{ℕ, ◌≤◌}
use mathlib.Core.Path.{◌≡◌, sym, ap, ◌∙◌}
use mathlib.Core.Bool.{Bool, true, false, cond}
use mathlib.Core.List.{List, [], ◌∷◌, ◌++◌}
use native.Mathlib.Omega.{arith}
use lib.ListN.{length}
use Rattle.base.specs.Questions.{Question, ◌else◌, first_no}
use Rattle.base.proofs.QuestionLaws.{passes, fails, all_passed, refused_there}
use Rattle.field.specs.Fields.{key_bytes}
use Rattle.field.specs.declared.Field.{Field}
use Rattle.field.specs.declared.Field.TheVariants.{Gf32, Gf256}
use Rattle.word.specs.Words.{letters}
use Rattle.key.specs.Keys.{key_questions, key_answer, key_field, key_of}
use Rattle.key.proofs.KeyFacts.{accepted}
use Rattle.slip_verdict.specs.Verdict.{verdict}
use Rattle.shelf.specs.Shelves.{file_room, is_publisher, has_slot, held, is_held}
use Rattle.shelf.specs.Charges.{admitted, charging}
use Rattle.shelf.specs.Calls.{Work, load, clear, judge, round, chip_questions, answer_to, done}
use Rattle.shelf.specs.Calls.{is_verdict, acts, after, Serves}
use Rattle.shelf.proofs.ChipLaws.{on_chip, by_file}

module _ (p : ℕ) (work : Work) (shelf : List ℕ) where
  pub left_alone : acts work (answer_to p work shelf) ≡ false → after p work shelf ≡ shelf
  unfolding after
  left_alone e = ap (λ (b : Bool). cond b (done p work shelf) shelf) e

  pub acted : acts work (answer_to p work shelf) ≡ true → after p work shelf ≡ done p work shelf
  unfolding after
  acted e = ap (λ (b : Bool). cond b (done p work shelf) shelf) e

  -- a refusal with its number, and work that is done
  pub refused : (a : ℕ) → answer_to p work shelf ≡ a → acts work a ≡ false → Serves p work shelf shelf a
  refused a e h = record { answer_is = sym e; shelf_is = sym (left_alone (ap (acts work) e ∙ h)) }

  pub served : {left : List ℕ} {a : ℕ} → answer_to p work shelf ≡ a → acts work a ≡ true → left ≡ done p work shelf
      → Serves p work shelf left a
  served e h d = record { answer_is = sym e; shelf_is = d ∙ sym (acted (ap (acts work) e ∙ h)) }

-- a slip that was judged: its letters are charged where the answer is a verdict
pub judged : (p n : ℕ) (digest word shelf : List ℕ) {left : List ℕ} {answer : ℕ}
    → answer ≡ answer_to p (judge n digest word) shelf
    → left ≡ cond (is_verdict answer) (charging p (length (letters word)) shelf) shelf
    → Serves p (judge n digest word) shelf left answer
unfolding after
judged p n digest word shelf e l =
    record {
      answer_is = e;
      shelf_is = l ∙ ap (λ (a : ℕ). cond (is_verdict a) (charging p (length (letters word)) shelf) shelf) e;
    }

-- ---- the questions in order

module _ (p n : ℕ) (shelf : List ℕ) where
  pub load_30 : (file : List ℕ) → has_slot p n ≡ false → answer_to p (load n file) shelf ≡ 30
  unfolding answer_to
  load_30 file e = fails 30 (key_questions file) e

  pub load_answer : (file : List ℕ) → has_slot p n ≡ true → answer_to p (load n file) shelf ≡ key_answer file
  unfolding answer_to key_answer
  load_answer file e = passes 30 (key_questions file) e

  pub clear_30 : has_slot p n ≡ false → answer_to p (clear n) shelf ≡ 30
  unfolding answer_to
  clear_30 e = fails 30 [] e

  pub clear_answer : has_slot p n ≡ true → answer_to p (clear n) shelf ≡ 0
  unfolding answer_to first_no
  clear_answer e = passes 30 [] e

  module _ (digest word : List ℕ) where
    -- the file that is held, and whether the slip is admitted
    abbrev file : List ℕ
    file = held p n shelf

    abbrev ok : Bool
    ok = admitted p (length (letters word)) shelf

    abbrev slip : List Question
    slip = chip_questions ok (key_of file) digest word

    abbrev from_31 : List Question
    from_31 = (is_held file else 31) ∷ (key_questions file ++ slip)

    pub judge_30 : has_slot p n ≡ false → answer_to p (judge n digest word) shelf ≡ 30
    unfolding answer_to
    judge_30 e = fails 30 from_31 e

    pub judge_31 : has_slot p n ≡ true → is_held file ≡ false → answer_to p (judge n digest word) shelf ≡ 31
    unfolding answer_to
    judge_31 e h = passes 30 from_31 e ∙ fails 31 (key_questions file ++ slip) h

    module _ (e : has_slot p n ≡ true) (h : is_held file ≡ true) where
      past_31 : answer_to p (judge n digest word) shelf ≡ first_no (key_questions file ++ slip)
      unfolding answer_to
      past_31 = passes 30 from_31 e ∙ passes 31 (key_questions file ++ slip) h

      -- a slip gets what the whole verdict gives with the file that is held, or 36 in the verdict's place
      pub judge_answer : answer_to p (judge n digest word) shelf ≡ on_chip ok (verdict file digest word)
      judge_answer = past_31 ∙ by_file ok file digest word

      -- the key that is held is refused; this happens on no shelf of a history
      pub judge_key : (key_answer file ≡ 0 → ⊥) → answer_to p (judge n digest word) shelf ≡ key_answer file
      unfolding key_answer
      judge_key r = past_31 ∙ refused_there (key_questions file) slip tt r

      -- the key is accepted: the slip's questions under it decide
      pub judge_slip : key_answer file ≡ 0 → answer_to p (judge n digest word) shelf ≡ first_no slip
      unfolding key_answer
      judge_slip k = past_31 ∙ all_passed (key_questions file) slip tt k

pub round_30 : (p : ℕ) (shelf : List ℕ) → is_publisher p ≡ false → answer_to p round shelf ≡ 30
unfolding answer_to
round_30 p shelf e = fails 30 [] e

pub round_answer : (p : ℕ) (shelf : List ℕ) → is_publisher p ≡ true → answer_to p round shelf ≡ 0
unfolding answer_to first_no
round_answer p shelf e = passes 30 [] e

-- ---- an accepted key fits a slot

few_bytes : (f : Field) → key_bytes f ≤ file_room
few_bytes Gf32 = omega arith
few_bytes Gf256 = omega arith

pub key_fits : (file : List ℕ) → key_answer file ≡ 0 → length file ≤ file_room
key_fits file k = omega (arith, (accepted file k).size, few_bytes (key_field file))
