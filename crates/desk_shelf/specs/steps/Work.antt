-- Work on the shelf in a file, for a private contract.
use Rattle.std.specs.Prelude.{ℕ, ◌≡◌, true, false, List}
use Rattle.shelf.specs.Shelves.{empty_shelf}
use Rattle.desk_shelf.specs.Serving.{is_shelf, shelf_in, unanswered}
use Rattle.desk_shelf.specs.declared.Served.{Served}

-- What is served by work whose calls are given. A file that is no shelf gets no answer, and nothing is to be written.
-- On a shelf, a call gave the answer, and left the shelf to write.
pub record ServedBy (file : List ℕ) (calls : List ℕ → ℕ → List ℕ → Type 0) (served : Served) : Type 0 where
  pub read_is : served.read ≡ true
  pub whole_is : served.whole ≡ is_shelf file
  pub none : is_shelf file ≡ false → (served.answer ≡ unanswered) × (served.shelf ≡ empty_shelf)
  pub done : is_shelf file ≡ true → calls (shelf_in file) served.answer served.shelf
