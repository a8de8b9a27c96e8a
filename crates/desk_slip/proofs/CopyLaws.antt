-- Several copies of a slip: the answer to each copy is the whole verdict on it, and its line is the line of that
-- answer.
use Prim.Native.Nat.{ℕ}
use mathlib.Core.Path.{◌≡◌, sym, ap, subst, ◌∙◌}
use mathlib.Core.Bool.{Bool, true, false, ◌&&◌}
use mathlib.Core.List.{List}
use native.Mathlib.Decide.{ℕ_discrete}
use lib.ListN.{take}
use Rattle.base.specs.Questions.{first_no}
use Rattle.base.proofs.QuestionLaws.{granted_zero, granted_refused}
use Rattle.slip_verdict.specs.declared.Halved.{Halved}
use Rattle.slip_verdict.specs.Halves.{MakesHalf, second_half_questions}
use Rattle.slip_verdict.specs.Verdict.{verdict}
use Rattle.slip_verdict.proofs.WholeFromHalves.{whole_is_its_halves, refused_by_the_first}
use Rattle.desk_line.specs.Desk.{answer_line, no_answer_line, Tells}
use Rattle.desk_slip.specs.Slips.{files_line}
use Rattle.desk_slip.specs.Copies.{copy_answer, GivesVerdicts, copy_line, slip_line}
use Rattle.desk_line.specs.declared.Got.{Got}

module _ (made : Halved) (word : List ℕ) where
  -- the first half refused, or the second answers
  pub copy_refused : (made.answer ≡ 0 → ⊥) → made.answer ≡ copy_answer made word
  unfolding copy_answer
  copy_refused r = sym (granted_refused _ _ r)

  pub copy_judged : made.answer ≡ 0 → first_no (second_half_questions made.half word) ≡ copy_answer made word
  unfolding copy_answer
  copy_judged z = sym (granted_zero _ _ z)

pub gives_verdicts : (made : Halved) → GivesVerdicts made
gives_verdicts made key digest word m = go (ℕ_discrete made.answer 0)
  where
    go : Dec (made.answer ≡ 0) → copy_answer made word ≡ verdict key digest word
    go (yes z) = sym (copy_judged made word z) ∙ whole_is_its_halves m word z
    go (no r) = sym (copy_refused made word r) ∙ sym (refused_by_the_first m word r)

-- the line on a copy that could be read, and on a copy that could not
module _ (made : Halved) (got : Got) (word : List ℕ) where
  pub copy_read : {copy : List ℕ} {n bytes : ℕ} {text : List ℕ} → got.read ≡ true → copy ≡ take got.bytes word
      → n ≡ copy_answer made copy
      → Tells (answer_line n) bytes text → Tells (copy_line made got word) bytes text
  unfolding copy_line
  copy_read {bytes = bytes} {text = text} e s v t =
      rw e (subst (λ (k : ℕ). Tells (answer_line k) bytes text) (v ∙ ap (copy_answer made) s) t)

  pub copy_not_read : {bytes : ℕ} {text : List ℕ} → got.read ≡ false → Tells no_answer_line bytes text
      → Tells (copy_line made got word) bytes text
  unfolding copy_line
  copy_not_read e t = rw e t

-- the line on one of several slips: all its files could be read, or one of them could not
module _ (k d w : Got) (key digest word : List ℕ) where
  pub slip_read : {read : Bool} {bytes : ℕ} {text : List ℕ} → read ≡ k.read && d.read && w.read → read ≡ true
      → Tells (files_line k d w key digest word) bytes text → Tells (slip_line k d w key digest word) bytes text
  unfolding slip_line
  slip_read e t s = rw (sym e ∙ t) s

  pub slip_not_read : {read : Bool} {bytes : ℕ} {text : List ℕ} → read ≡ k.read && d.read && w.read → read ≡ false
      → Tells no_answer_line bytes text → Tells (slip_line k d w key digest word) bytes text
  unfolding slip_line
  slip_not_read e t s = rw (sym e ∙ t) s

-- the line on a copy is the line on the slip in three files, where all three could be read
pub copy_as_files : (made : Halved) (k d w : Got) (key digest word : List ℕ)
    → MakesHalf (take k.bytes key) (take d.bytes digest) made.answer made.half
    → k.read ≡ true → d.read ≡ true → w.read ≡ true
    → copy_line made w word ≡ files_line k d w key digest word
unfolding copy_line files_line
copy_as_files made k d w key digest word m kr dr wr =
    rw kr (rw dr (rw wr (ap answer_line (gives_verdicts made _ _ _ m))))
