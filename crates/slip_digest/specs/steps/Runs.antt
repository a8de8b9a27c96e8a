-- A run of codes, as the encoder fills it in.
use Rattle.std.specs.Prelude.{ℕ, ◌+◌, ◌*◌, ◌%◌, List}
use Rattle.base.specs.Lists.{values}

-- n codes, of which each is `step` more than the last, modulo 16. Only a private contract cites this definition.
abbrev pub progression : ℕ → ℕ → ℕ → List ℕ
progression first step n = values (λ i. (first + step * i) % 16) n
