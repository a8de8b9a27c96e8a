-- Shortening as an operation on word files.
use Rattle.std.specs.Prelude.{ℕ, ◌≤◌, ◌≡◌, true, List, ◌∷◌, length}
use Rattle.base.specs.Questions.{Question, first_no}
use Rattle.base.specs.Lists.{every}
use Rattle.word.specs.Letters.{is_letter}
use Rattle.word.specs.Words.{codes, room_question, word_questions, word_file, Wrote}
use Rattle.word.specs.Reduction.{Irreducible}
use Rattle.braid_handles.specs.Handles.{after_steps, step_questions}
use Rattle.swap_cancel.specs.SwapCancel.{swap_cancelled}
use Rattle.slip_meaning.specs.Meaning.{SameMeaning}

-- Shortening: 15, then the word
abbrev pub shortener_questions : ℕ → List ℕ → List Question
shortener_questions room word = room_question room ∷ word_questions word

-- the largest limit of handle reduction
abbrev pub most_steps : ℕ
most_steps = 65535

-- What shortening saves of a word. Effort 0 swaps and cancels alone. With any effort the new word is not longer than
-- what swapping and cancelling leaves of the word, and with effort over 0 not longer than what it leaves of the word
-- after handle reduction, if that is not refused.
pub record Saves (effort : ℕ) (old new : List ℕ) : Type 0 where
  pub without_effort : effort ≡ 0 → new ≡ swap_cancelled old
  pub not_longer : length new ≤ length (swap_cancelled old)
  pub after_handles : (effort ≡ 0 → ⊥) → first_no (step_questions most_steps old) ≡ 0
      → length new ≤ length (swap_cancelled (after_steps most_steps old))

-- What shortening returns, and what it leaves in the output. With effort over 0 the new word is left free. Its codes
-- are letters, and it is freely reduced. If the answer is 0, letters are saved, and its file has the word's meaning.
pub record Shortened (effort : ℕ) (word before after : List ℕ) (answer bytes : ℕ) : Type 0 where
  pub new : List ℕ
  pub wrote : Wrote (shortener_questions (length before) word) (word_file new) before after answer bytes
  pub lettered : every is_letter new ≡ true
  pub irreducible : Irreducible new
  pub saves : answer ≡ 0 → Saves effort (codes word) new
  pub means : answer ≡ 0 → SameMeaning word (word_file new)
