-- What the steps on a row of codes leave. Contracts of functions that are no operation of the papers cite it.
use Rattle.std.specs.Prelude.{ℕ, ◌+◌, ◌-◌, ◌*◌, ◌≤◌, ◌<◌, ◌≡◌, Bool, true, false, List, length, take, get_or}
use Rattle.std.specs.Prelude.{Option, Some, None, Result, Ok, Err}
use Rattle.base.specs.Questions.{first_no, granted}
use Rattle.base.specs.Lists.{every}
use Rattle.word.specs.Letters.{is_letter}
use Rattle.braid_handles.specs.Handles.{has_handle, after_steps, step_questions}
use Rattle.handle_row.specs.steps.Gaps.{gapped, beginning, Tables}
use Rattle.handle_steps.specs.declared.turns.State.{State}
use Rattle.handle_steps.specs.declared.turns.Last.{Last}
use Rattle.handle_steps.specs.declared.turns.TooLong.{TooLong}

-- a row that holds a word of n letters, with room for any word
pub record HoldsWord (n : ℕ) (row : List ℕ) : Type 0 where
  pub few : n ≤ 10000
  pub room : 10000 ≤ length row
  pub lettered : every is_letter (take n row) ≡ true

-- a row and tables before the first step
pub record Fresh (row latest before : List ℕ) : Type 0 where
  pub room : length row ≡ 10001
  pub beside : length before ≡ 10001
  pub slots : length latest ≡ 9
  pub none : (s : ℕ) → get_or latest s 0 ≡ 0

-- At most `limit` steps on the word that a row's first n codes hold. The row's first `letters` codes are then the new
-- word, on a refusal the old word. `left` says whether a handle is left, and no on a refusal.
pub record StepsOnRow (limit n : ℕ) (row row' : List ℕ) (answer letters : ℕ) (left : Bool) : Type 0 where
  pub answer_is : answer ≡ first_no (step_questions limit (take n row))
  pub few : letters ≤ 10000
  pub word_is : take letters row' ≡ granted answer (after_steps limit (take n row)) (take n row)
  pub left_is : left ≡ granted answer (has_handle (after_steps limit (take n row))) false

-- a row with a gap, with no handle before the gap
pub record Gap (row latest before : List ℕ) (left right : ℕ) : Type 0 where
  pub room : length row ≡ 10001
  pub beside : length before ≡ 10001
  pub gap : left < right
  pub within : right ≤ 10001
  pub lettered : every is_letter (gapped row left right) ≡ true
  pub clean : has_handle (take left row) ≡ false
  pub tables : Tables row latest before left

-- m steps on the word v end as n steps on the word w do
pub record SameRun (m : ℕ) (v : List ℕ) (n : ℕ) (w : List ℕ) : Type 0 where
  pub word_is : after_steps m v ≡ after_steps n w
  pub answer_is : first_no (step_questions m v) ≡ first_no (step_questions n w)

-- The number that each turn lowers. It counts the codes after the gap and the steps that are left. A step counts for
-- 10,002, because it may leave all codes of the row after the gap.
abbrev pub work : ℕ → ℕ → ℕ
work steps right = steps * 10002 + (10001 - right)

-- n steps on the word w have ended, and the codes around the gap are the word after them. `handle` says whether a
-- handle is left.
pub record Ended (n : ℕ) (w row : List ℕ) (left right : ℕ) (handle : Bool) : Type 0 where
  pub gap : left < right
  pub within : right ≤ 10001
  pub answer_is : first_no (step_questions n w) ≡ 0
  pub word_is : gapped row left right ≡ after_steps n w
  pub left_is : handle ≡ has_handle (after_steps n w)

-- The turns go on. The word around the gap is after one turn the word with `steps` steps left, where it had n steps
-- left before the turn.
pub record Goes (row : List ℕ) (left right n : ℕ) (row' latest before : List ℕ) (left' right' steps : ℕ) : Type 0 where
  pub gap : Gap row' latest before left' right'
  pub same : SameRun steps (gapped row' left' right') n (gapped row left right)
  pub less : work steps right' < work n right

-- the first of n steps on a word is refused
abbrev pub Refused : ℕ → List ℕ → Type 0
Refused n w = first_no (step_questions n w) ≡ 32

-- a step that is made or refused
abbrev pub StepMade : List ℕ → State → List ℕ → List ℕ → List ℕ → Result State TooLong → Type 0
StepMade row s row' latest before (Ok t) =
    Goes row s.left s.right s.steps row' latest before t.left t.right t.steps
StepMade row s row' latest before (Err e) = Refused s.steps (gapped row s.left s.right)

-- One turn on the word around a gap: the turns go on, or the limit is reached and a handle is left, or the step is
-- refused.
abbrev pub Turned : List ℕ → State → List ℕ → List ℕ → List ℕ → Result (Option State) TooLong → Type 0
Turned row s row' latest before (Ok (Some t)) =
    Goes row s.left s.right s.steps row' latest before t.left t.right t.steps
Turned row s row' latest before (Ok None) = Ended s.steps (gapped row s.left s.right) row' s.left s.right true
Turned row s row' latest before (Err e) = Refused s.steps (gapped row s.left s.right)

-- the handle that ends with the first code after the gap begins right before place `own`, and a step is left
pub record Found (row : List ℕ) (own left right steps : ℕ) : Type 0 where
  pub own_is : own ≡ beginning row left right
  pub found : 0 < own
  pub unread : right < 10001
  pub some : 0 < steps

-- a run: the steps have ended, or one is refused
abbrev pub Ran : ℕ → List ℕ → List ℕ → Result Last TooLong → Type 0
Ran n w row (Ok e) = Ended n w row e.left e.right e.handle
Ran n w row (Err e) = Refused n w
