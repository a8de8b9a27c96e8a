-- What the functions of restoring assume and leave. Only private contracts cite these definitions.
use Rattle.std.specs.Prelude.{ℕ, ◌+◌, ◌*◌, ◌≤◌, ◌≡◌, length, take}
use mathlib.Core.List.{List, zip_with}
use Rattle.base.specs.Digits.{value, digits}
use Rattle.base.specs.Packing.{row_bytes}
use Rattle.word_stored.specs.Stored.{letters_stated, letter_of}

-- the file states n letters and has the bytes that n letters need
pub record Sized (file : List ℕ) (n : ℕ) : Type 0 where
  pub number : n ≡ letters_stated file
  pub few : n ≤ 10000
  pub size : length file ≡ 6 + row_bytes 1 n + row_bytes 3 n

-- The codes of groups of eight letters. The signs of a group are one byte, its generators are three bytes.
unfoldable pub group_codes : List ℕ → List ℕ → ℕ → List ℕ
group_codes signs generators groups =
    zip_with letter_of (digits 2 (8 * groups) (value 256 (take groups signs)))
    (digits 8 (8 * groups) (value 256 (take (3 * groups) generators)))
