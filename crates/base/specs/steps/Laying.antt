-- Bytes that are stored in the middle of an output: a step of writers of files and texts.
use Rattle.std.specs.Prelude.{ℕ, ◌+◌, ◌≡◌, List, ◌++◌, length, take, drop}

-- The bytes xs are laid at place `at` of an output. `end` is the place after them. All other bytes of the output are
-- unchanged.
pub record Laid (at : ℕ) (xs before after : List ℕ) (end : ℕ) : Type 0 where
  pub ends : end ≡ at + length xs
  pub lies : after ≡ take at before ++ (xs ++ drop (length xs) (drop at before))
