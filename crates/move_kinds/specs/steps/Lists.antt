-- What the reader of a move list asks for.
use Rattle.std.specs.Prelude.{ℕ, ◌+◌, ◌*◌, ◌≡◌, List, length}
use Rattle.move_kinds.specs.Rewriting.{move_count}

-- the list has exactly the length that its number of moves needs
abbrev pub Listed : List ℕ → Type 0
Listed moves = length moves ≡ 2 + 3 * move_count moves
