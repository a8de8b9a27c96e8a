-- What judging gives and leaves once the key that is held was read. Only a private contract cites this definition.
use Rattle.std.specs.Prelude.{ℕ, ◌≡◌, cond, List, length}
use Rattle.base.specs.Questions.{first_no}
use Rattle.word.specs.Words.{letters}
use Rattle.key.specs.declared.Key.{Key}
use Rattle.shelf.specs.Charges.{admitted, charging}
use Rattle.shelf.specs.Calls.{chip_questions, is_verdict}

pub record OnChip (publisher : ℕ) (key : Key) (digest word shelf left : List ℕ) (answer : ℕ) : Type 0 where
  pub answer_is : answer ≡ first_no (chip_questions (admitted publisher (length (letters word)) shelf) key digest word)
  pub shelf_is : left ≡ cond (is_verdict answer) (charging publisher (length (letters word)) shelf) shelf
