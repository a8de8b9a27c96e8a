-- Several copies of a slip at the desk (document 02, §4): key and digest give the first half of the verdict once, and
-- each copy gets its line by the second half.
use Rattle.std.specs.Prelude.{ℕ, ◌≡◌, Bool, cond, ◌&&◌, List, take}
use Rattle.base.specs.Questions.{first_no, granted}
use Rattle.slip_verdict.specs.declared.Halved.{Halved}
use Rattle.slip_verdict.specs.Halves.{MakesHalf, second_half_questions}
use Rattle.slip_verdict.specs.Verdict.{verdict}
use Rattle.desk_line.specs.Desk.{answer_line, no_answer_line}
use Rattle.desk_line.specs.declared.Got.{Got}
use Rattle.desk_slip.specs.Slips.{files_line}

-- What key and digest give for all copies: whether both files could be read, and the first half of the verdict. Each
-- file is the first bytes of its buffer, as many as were read.
pub record FirstHalfOf (k d : Got) (key digest : List ℕ) (read : Bool) (made : Halved) : Type 0 where
  pub both_read : read ≡ k.read && d.read
  pub half_is : MakesHalf (take k.bytes key) (take d.bytes digest) made.answer made.half

-- the answer to a copy: the refusal of the first half, or the answer of the second half
unfoldable pub copy_answer : Halved → List ℕ → ℕ
copy_answer made word =
    granted made.answer (first_no (second_half_questions made.half word)) made.answer

-- the answer to a copy is the verdict, under every key and digest that give this first half
abbrev pub GivesVerdicts : Halved → Type 0
GivesVerdicts made = (key digest word : List ℕ) → MakesHalf key digest made.answer made.half
    → copy_answer made word ≡ verdict key digest word

-- The line for a copy: the line of its answer, or "no answer" if its file could not be read. The copy is the first
-- bytes of its buffer, as many as were read. So each copy has its line.
unfoldable pub copy_line : Halved → Got → List ℕ → List ℕ
copy_line made got word = cond got.read (answer_line (copy_answer made (take got.bytes word))) no_answer_line

-- The line for one of several slips, each in three files: the line for its files, or "no answer" if one of them could
-- not be read. So each slip has its line.
unfoldable pub slip_line : Got → Got → Got → List ℕ → List ℕ → List ℕ → List ℕ
slip_line k d w key digest word = cond (k.read && d.read && w.read) (files_line k d w key digest word) no_answer_line
