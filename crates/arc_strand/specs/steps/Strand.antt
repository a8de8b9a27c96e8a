-- One letter and the strand. Only contracts of functions that are no operation of the papers cite this definition.
use Rattle.std.specs.Prelude.{ℕ, ◌<◌, ◌≡◌, true}
use Rattle.word.specs.Letters.{is_letter, generator}
use Rattle.braid_arcs.specs.Arcs.{beside}

-- With the strand at place x, c is a letter of two other strands. With the strand at place 0 it would be the letter d.
pub record IsOther (x c d : ℕ) : Type 0 where
  pub letter : is_letter d ≡ true
  pub later : 0 < generator d
  pub outside : generator d ≡ x → ⊥
  pub here : beside d x ≡ c
