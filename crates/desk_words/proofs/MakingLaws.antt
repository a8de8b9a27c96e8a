-- What a verb makes, from what its parts give: nothing where a file could not be read or the answer is a refusal, and
-- what a writer wrote to zeros.
use Prim.Native.Nat.{ℕ, ◌≤◌}
use native.Mathlib.Omega.{arith}
use mathlib.Core.Path.{◌≡◌, refl, sym, ap, ◌∙◌, transport}
use mathlib.Core.Bool.{Bool, true, false, cond}
use mathlib.Core.List.{List, []}
use lib.ListN.{length, take, replicate, length-append}
use Rattle.base.specs.Questions.{Question, first_no, granted}
use Rattle.base.specs.Lists.{overlaid}
use Rattle.base.proofs.QuestionLaws.{granted_zero, granted_refused, granted_ap}
use Rattle.base.proofs.ListLaws.{take_overlaid}
use Rattle.word.specs.Words.{Wrote}
use Rattle.word.specs.declared.Written.{Written}
use Rattle.word.specs.Reduction.{Irreducible}
use Rattle.slip_verdict.specs.Verdict.{verdict}
use Rattle.desk_words.specs.Making.{to_write, no_answer, MakesNew, MadeBy, Shortens, Rewrites}
use Rattle.desk_words.specs.declared.Made.{Made}

-- nothing is written: what is made is the answer alone
pub record Bare (read : Bool) (answer : ℕ) (made : Made) : Type 0 where
  pub read_is : made.read ≡ read
  pub answer_is : made.answer ≡ answer
  pub bytes_are : made.bytes ≡ 0
  pub file_is : made.file ≡ replicate 5006 0

pub bare_of : {read : Bool} {answer : ℕ} {made : Made}
    → (made.read ≡ read) × (made.answer ≡ answer) × (made.bytes ≡ 0) × (made.file ≡ replicate 5006 0)
    → Bare read answer made
bare_of p = record { read_is = p.0; answer_is = p.1; bytes_are = p.2; file_is = p.3 }

bare_makes : {read : Bool} {n : ℕ} {made : Made} (answer : ℕ) (new : List ℕ) → Bare read n made
    → n ≡ cond read answer no_answer → to_write read answer new ≡ []
    → MakesNew read answer new made
unfolding overlaid
bare_makes answer new b a e =
    record {
      read_is = b.read_is;
      answer_is = b.answer_is ∙ a;
      bytes_are = rw e b.bytes_are;
      file_is = rw e b.file_is;
    }

-- a file could not be read
pub unread : {read : Bool} {made : Made} (answer : ℕ) (new : List ℕ) → read ≡ false → Bare false no_answer made
    → MakesNew read answer new made
unfolding to_write
unread answer new e b = rw e (bare_makes answer new b refl refl)

-- the answer is a refusal
refused : {made : Made} (answer : ℕ) (new : List ℕ) → (answer ≡ 0 → ⊥) → Bare true answer made
    → MakesNew true answer new made
unfolding to_write
refused answer new h b = bare_makes answer new b refl (granted_refused new [] h)

-- what a writer wrote to zeros
pub wrote_makes : {questions : List Question} {new : List ℕ} {made : Made} (answer : ℕ) → made.read ≡ true
    → Wrote questions new (replicate 5006 0) made.file made.answer made.bytes → first_no questions ≡ answer
    → MakesNew true answer new made
unfolding to_write overlaid
wrote_makes {questions} {new} {made} answer r w e =
    record {
      read_is = r;
      answer_is = w.answer_is ∙ e;
      bytes_are = w.bytes_is ∙ ap (λ (n : ℕ). granted n (length new) 0) e ∙ sym (granted_ap length answer new []);
      file_is =
          w.output_is ∙ ap (λ (n : ℕ). granted n (overlaid new (replicate 5006 0)) (replicate 5006 0)) e
          ∙ sym (granted_ap (λ l. overlaid l (replicate 5006 0)) answer new []);
    }

-- what holds of each call of a writer at zeros holds of what a verb makes by it
pub wrote_by : {calls : List ℕ → Written → List ℕ → Type 0} {P : Written → List ℕ → Type 0} {made : Made}
    → MadeBy calls made → ((w : Written) (file : List ℕ) → calls (replicate 5006 0) w file → P w file)
    → P (record { answer = made.answer; bytes = made.bytes }) made.file
wrote_by m f = f _ _ m.wrote

-- what a verb makes by a writer, from what the writer's contract says of each call at zeros
pub made_by : {calls : List ℕ → Written → List ℕ → Type 0} {questions : List Question} {new : List ℕ} {made : Made}
    (answer : ℕ) → MadeBy calls made
    → ((w : Written) (file : List ℕ) → calls (replicate 5006 0) w file
    → Wrote questions new (replicate 5006 0) file w.answer w.bytes)
    → first_no questions ≡ answer → MakesNew true answer new made
made_by answer m f e = wrote_makes answer m.read_is (f _ _ m.wrote) e

-- the answer may be replaced by an equal one
pub makes_as : {read : Bool} {a b : ℕ} {new : List ℕ} {made : Made} → a ≡ b → MakesNew read a new made
    → MakesNew read b new made
makes_as e m = rw (sym e) m

-- on answer 0 the bytes to write are the new file
pub made_file : {answer : ℕ} {new : List ℕ} {made : Made} → MakesNew true answer new made → made.answer ≡ 0
    → take made.bytes made.file ≡ new
unfolding to_write
made_file {answer} {new} m z =
    let g : granted answer new [] ≡ new = granted_zero new [] (sym m.answer_is ∙ z) in
    rw (m.bytes_are, m.file_is, g) (take_overlaid new (replicate 5006 0))

-- the bytes counted lie within the file
pub bytes_within : {read : Bool} {answer : ℕ} {new : List ℕ} {made : Made} → MakesNew read answer new made
    → made.bytes ≤ length made.file
unfolding overlaid
bytes_within m = rw (m.bytes_are, m.file_is) (simp length-append (omega arith))

-- if a file could not be read, the answer is not 0
unanswered : {made : Made} → Bare false no_answer made → made.answer ≡ 0 → ⊥
unanswered b z = omega (arith, b.answer_is)

-- the empty word is irreducible
none_irreducible : Irreducible []
none_irreducible k h = absurd (omega (arith, h))

-- what shortening and rewriting make if a file could not be read, and if all could
pub shortens_unread : {effort : ℕ} {read : Bool} {key digest word : List ℕ} {made : Made} → read ≡ false
    → Bare false no_answer made
    → Shortens effort read key digest word made
shortens_unread e b =
    record {
      new = [];
      makes = unread _ _ e b;
      saves = λ z. absurd (unanswered b z);
      irreducible = none_irreducible;
      keeps = λ z. absurd (unanswered b z);
      opens = λ z. absurd (unanswered b z);
    }

-- a slip that is refused
pub shortens_refused : {effort : ℕ} {key digest word : List ℕ} {made : Made} → (verdict key digest word ≡ 0 → ⊥)
    → Bare true (verdict key digest word) made
    → Shortens effort true key digest word made
shortens_refused h b =
    record {
      new = [];
      makes = refused _ _ h b;
      saves = λ z. absurd (h (sym b.answer_is ∙ z));
      irreducible = none_irreducible;
      keeps = λ z. absurd (h (sym b.answer_is ∙ z));
      opens = λ z. absurd (h (sym b.answer_is ∙ z));
    }

pub shortens_as : {effort : ℕ} {read : Bool} {k d w key digest word : List ℕ} {made : Made} → read ≡ true → k ≡ key
    → d ≡ digest
    → w ≡ word
    → Shortens effort true k d w made → Shortens effort read key digest word made
shortens_as {effort = effort} {made = made} e p q r s =
    transport (λ i. Shortens effort (sym e i) (p i) (q i) (r i) made) s

pub rewrites_unread : {read : Bool} {word moves : List ℕ} {made : Made} → read ≡ false → Bare false no_answer made
    → Rewrites read word moves made
rewrites_unread e b = record { makes = unread _ _ e b; keeps = λ z. absurd (unanswered b z) }

pub rewrites_as : {read : Bool} {w m word moves : List ℕ} {made : Made} → read ≡ true → w ≡ word → m ≡ moves
    → Rewrites true w m made → Rewrites read word moves made
rewrites_as {made = made} e p q s = transport (λ i. Rewrites (sym e i) (p i) (q i) made) s
