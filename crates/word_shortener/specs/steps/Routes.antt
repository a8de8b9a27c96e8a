-- What the two ways to a shorter word leave of a word. The new word is the first r codes of a row. Only private
-- contracts cite these definitions.
use Rattle.std.specs.Prelude.{ℕ, ◌≤◌, ◌≡◌, List, Option, length, take, MatchOption}
use Rattle.base.specs.Questions.{first_no}
use Rattle.word.specs.Reduction.{Irreducible}
use Rattle.braid_same.specs.SameBraid.{SameBraid}
use Rattle.braid_handles.specs.Handles.{after_steps, step_questions}
use Rattle.swap_cancel.specs.SwapCancel.{swap_cancelled}
use Rattle.word_shortener.specs.Shortener.{most_steps, Saves}

-- the new word has at most m letters, is the same braid, and is freely reduced
pub record ShortWord (m : ℕ) (old after : List ℕ) (r : ℕ) : Type 0 where
  pub not_longer : r ≤ m
  pub same : SameBraid old (take r after)
  pub irreducible : Irreducible (take r after)

-- Handles are taken out first. If that is refused, there is no number of letters.
abbrev pub SecondWay : List ℕ → List ℕ → Option ℕ → Type 0
SecondWay old after r =
    MatchOption r (first_no (step_questions most_steps old) ≡ 0 → ⊥)
    (ShortWord (length (swap_cancelled (after_steps most_steps old))) old after)

-- the shorter of both ways is taken
pub record BothWays (effort : ℕ) (old after : List ℕ) (r : ℕ) : Type 0 where
  pub laid : ShortWord (length (swap_cancelled old)) old after r
  pub saves : Saves effort old (take r after)
