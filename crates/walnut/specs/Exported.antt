-- The library's version. The parts of a key and of a half, as C has them, put together. C names the field by a Bool.
use Rattle.std.specs.Prelude.{ℕ, ◌+◌, ◌*◌, Bool, List}
use Rattle.field.specs.Fields.{field_of}
use Rattle.pair.specs.declared.Pair.{Pair}
use Rattle.key.specs.declared.Key.{Key}
use Rattle.slip_verdict.specs.declared.Half.{Half}

-- the version of the library as one number: 10,000 for each major version, 100 for each minor one, 1 for each patch
abbrev pub version : ℕ
version = 10000 * 1 + 100 * 1 + 1

-- the key of its parts: whether the field is the larger one, the T-values, the pair Pub(S), the matrix of Pub(S')
abbrev pub key_from : Bool → List ℕ → Pair → List ℕ → Key
key_from large ts pair second = record { field = field_of large; t_values = ts; pair = pair; second = second }

-- the half of its parts: whether the field is the larger one, the T-values, the pair Pub(S), the target
abbrev pub half_from : Bool → List ℕ → Pair → List ℕ → Half
half_from large ts pair target = record { field = field_of large; t_values = ts; pair = pair; target = target }
