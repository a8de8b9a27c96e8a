-- The test of a bound, as the code makes it.
use Rattle.std.specs.Prelude.{ℕ, ◌^◌, Bool, List, ltb}
use Rattle.base.specs.Lists.{every}

-- does every number fit b bits?
abbrev pub fit : ℕ → List ℕ → Bool
fit b xs = every (λ x. ltb x (2 ^ b)) xs
