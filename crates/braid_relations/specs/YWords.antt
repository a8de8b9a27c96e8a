-- What a Y word means. It stands for the braid of its Artin word.
use Rattle.std.specs.Prelude.{ℕ, List}
use Rattle.word_dialect.specs.Dialect.{from_y, converted}
use Rattle.braid_same.specs.SameBraid.{SameBraid}

-- the Y word stands for the braid of this Artin word, for parts of 7
abbrev pub StandsFor : List ℕ → List ℕ → List ℕ → Type 0
StandsFor parts y artin = SameBraid (converted from_y parts y) artin
