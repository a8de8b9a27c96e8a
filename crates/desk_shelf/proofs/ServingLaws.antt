-- What a verb gives, from what its parts give: where a file could not be read, where the first file is no shelf, and
-- where the work is done on the shelf.
use Prim.Native.Nat.{ℕ, ◌-◌, ◌≤◌, ◌<◌}
use mathlib.Core.Path.{◌≡◌, refl, sym, ap, ap₂, ◌∙◌, transport}
use mathlib.Core.Bool.{Bool, true, false, cond, ◌&&◌, ◌||◌}
use mathlib.Core.List.{List}
use mathlib.Core.Logic.{⊎_elim}
use native.Mathlib.Omega.{arith}
use borrow.Author.Tests.{eqb-true, eq-eqb, ne_eqb, le-leb, lt-leb}
use lib.Dec.{leb, eqb}
use lib.ListN.{length, take, get_or}
use lib.Seq.{take_all}
use Rattle.base.specs.Lists.{overlaid}
use Rattle.base.proofs.ListLaws.{and_false}
use Rattle.shelf.specs.Shelves.{shelf_bytes, empty_shelf}
use Rattle.shelf.specs.Calls.{Work, answer_to, after, Serves}
use Rattle.shelf.proofs.SlotLaws.{one_of}
use Rattle.desk_shelf.specs.Serving.{is_shelf, shelf_in, digit_of, unanswered, served_answer, served_shelf, ServesFile}
use Rattle.desk_shelf.specs.declared.Served.{Served}
use Rattle.desk_shelf.specs.steps.Work.{ServedBy}

-- ---- one digit

module _ (text : List ℕ) where
  abbrev digit : ℕ
  digit = get_or text 0 0

  abbrev given : Bool → Bool → Bool → ℕ
  given one low high = cond (one && low && high) (digit - 48) 10

  pub not_one : (length text ≡ 1 → ⊥) → digit_of text ≡ 10
  unfolding digit_of
  not_one h = ap (λ (t : Bool). given t (leb 48 digit) (leb digit 57)) (ne_eqb (length text) 1 h)

  pub below_0 : digit < 48 → digit_of text ≡ 10
  unfolding digit_of
  below_0 h =
      ap (λ (t : Bool). given (eqb (length text) 1) t (leb digit 57)) (lt-leb 48 digit h)
      ∙ ap (λ (t : Bool). cond (t && leb digit 57) (digit - 48) 10) (and_false (eqb (length text) 1))

  pub above_9 : 57 < digit → digit_of text ≡ 10
  unfolding digit_of
  above_9 h =
      ap (given (eqb (length text) 1) (leb 48 digit)) (lt-leb digit 57 h)
      ∙ ap (λ (t : Bool). cond t (digit - 48) 10) (and_false (eqb (length text) 1 && leb 48 digit))

  pub is_digit : length text ≡ 1 → 48 ≤ digit → digit ≤ 57 → digit_of text ≡ digit - 48
  unfolding digit_of
  is_digit one low high =
      ap (λ (t : Bool). given t (leb 48 digit) (leb digit 57)) (eq-eqb (length text) 1 one)
      ∙ ap₂ (λ (s t : Bool). given true s t) (le-leb 48 digit low) (le-leb digit 57 high)

-- ---- the shelf in a file

-- a shelf has at most the bytes of a shelf
shelf_fits : (file : List ℕ) → is_shelf file ≡ true → length file ≤ shelf_bytes
unfolding is_shelf
shelf_fits file e =
    ⊎_elim (λ a. omega (arith, eqb-true (length file) 0 a)) (λ b. omega (arith, eqb-true (length file) shelf_bytes b))
    (one_of (eqb (length file) 0) (eqb (length file) shelf_bytes) e)

-- the file laid over zeros
pub laid : (file z : List ℕ) → is_shelf file ≡ true → z ≡ overlaid (take shelf_bytes file) empty_shelf → z
    ≡ shelf_in file
laid file z e l = l ∙ ap (λ (f : List ℕ). overlaid f empty_shelf) (take_all shelf_bytes file (shelf_fits file e))

-- what is answered and left, where the file is a shelf and where it is none
module _ (file : List ℕ) (p : ℕ) (work : Work) where
  pub answer_as : {b : Bool} → is_shelf file ≡ b
      → served_answer file p work ≡ cond b (answer_to p work (shelf_in file)) unanswered
  unfolding served_answer
  answer_as e = ap (λ (b : Bool). cond b (answer_to p work (shelf_in file)) unanswered) e

  pub shelf_as : {b : Bool} → is_shelf file ≡ b
      → served_shelf file p work ≡ cond b (after p work (shelf_in file)) empty_shelf
  unfolding served_shelf
  shelf_as e = ap (λ (b : Bool). cond b (after p work (shelf_in file)) empty_shelf) e

-- ---- what a verb gives

-- no answer and nothing to write
pub record Bare (read whole : Bool) (served : Served) : Type 0 where
  pub read_is : served.read ≡ read
  pub whole_is : served.whole ≡ whole
  pub answer_is : served.answer ≡ unanswered
  pub shelf_is : served.shelf ≡ empty_shelf

pub bare_of : {read whole : Bool} {served : Served}
    → (served.read ≡ read) × (served.whole ≡ whole) × (served.answer ≡ unanswered) × (served.shelf ≡ empty_shelf)
    → Bare read whole served
bare_of p = record { read_is = p.0; whole_is = p.1; answer_is = p.2; shelf_is = p.3 }

-- a file could not be read
pub unread : {read whole : Bool} {served : Served} (file : List ℕ) (p : ℕ) (work : Work) → read ≡ false
    → whole ≡ is_shelf file → Bare false whole served → ServesFile read file p work served
unread file p work e w b =
    record {
      read_is = b.read_is ∙ sym e;
      whole_is = b.whole_is ∙ w;
      answer_is = b.answer_is ∙ ap (λ (r : Bool). cond r (served_answer file p work) unanswered) (sym e);
      shelf_is = b.shelf_is ∙ ap (λ (r : Bool). cond r (served_shelf file p work) empty_shelf) (sym e);
    }

-- the file is no shelf
no_shelf : {served : Served} (file : List ℕ) (p : ℕ) (work : Work) → is_shelf file ≡ false → Bare true false served
    → ServesFile true file p work served
no_shelf file p work e b =
    record {
      read_is = b.read_is;
      whole_is = b.whole_is ∙ sym e;
      answer_is = b.answer_is ∙ sym (answer_as file p work e);
      shelf_is = b.shelf_is ∙ sym (shelf_as file p work e);
    }

-- the work is done on the shelf in the file
on_shelf : {served : Served} (file : List ℕ) (p : ℕ) (work : Work) {shelf : List ℕ} → is_shelf file ≡ true
    → served.read ≡ true → served.whole ≡ true → shelf ≡ shelf_in file
    → Serves p work shelf served.shelf served.answer → ServesFile true file p work served
on_shelf file p work e r w s d =
    record {
      read_is = r;
      whole_is = w ∙ sym e;
      answer_is = d.answer_is ∙ ap (answer_to p work) s ∙ sym (answer_as file p work e);
      shelf_is = d.shelf_is ∙ ap (after p work) s ∙ sym (shelf_as file p work e);
    }

-- what work serves, from what its contract says of each call
pub served_by : {calls : List ℕ → ℕ → List ℕ → Type 0} {served : Served} (file : List ℕ) (p : ℕ) (work : Work)
    → ServedBy file calls served
    → ((old : List ℕ) (answer : ℕ) (new : List ℕ) → calls old answer new → Serves p work old new answer)
    → ServesFile true file p work served
served_by {served = served} file p work s f = go (is_shelf file) refl
  where
    go : (b : Bool) → is_shelf file ≡ b → ServesFile true file p work served
    go true e = on_shelf file p work e s.read_is (s.whole_is ∙ e) refl (f _ _ _ (s.done e))
    go false e = no_shelf file p work e
        (record {
          read_is = s.read_is;
          whole_is = s.whole_is ∙ e;
          answer_is = (s.none e).0;
          shelf_is = (s.none e).1;
        })

-- what was read, the numbers and the work may be replaced by equal ones
pub serves_as : {read : Bool} {f file : List ℕ} {q p : ℕ} {w work : Work} {served : Served} → read ≡ true → f ≡ file
    → q ≡ p → w ≡ work → ServesFile true f q w served → ServesFile read file p work served
serves_as {served = served} e a b c s = transport (λ i. ServesFile (sym e i) (a i) (b i) (c i) served) s
