-- Where the parts of a key file begin, and where it ends, if an element has b bits.
use Rattle.std.specs.Prelude.{ℕ}
use Rattle.base.specs.Files.{place_from}
use Rattle.key.specs.Keys.{key_sizes}

-- the place where part i begins, counted from 0
abbrev pub key_place : ℕ → ℕ → ℕ
key_place b i = place_from 0 (key_sizes b) i

-- the number of bytes of a file
abbrev pub file_bytes : ℕ → ℕ
file_bytes b = key_place b 6
