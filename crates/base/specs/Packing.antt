-- Rows of numbers packed into bytes. Each number has b bits, the most significant bit comes first, and zero bits fill
-- the last byte.
use Rattle.std.specs.Prelude.{ℕ, ◌+◌, ◌-◌, ◌*◌, ◌/◌, ◌%◌, ◌^◌, ◌<◌, List, length, get_or}
use Rattle.base.specs.Digits.{value, digits}

-- the bytes that n numbers of b bits need
abbrev pub row_bytes : ℕ → ℕ → ℕ
row_bytes b n = (n * b + 7) / 8

-- the number of bits that fill the last byte
abbrev pub filler_bits : ℕ → ℕ → ℕ
filler_bits b n = 8 * row_bytes b n - n * b

-- the bytes into which a row is packed
unfoldable pub packed_row : ℕ → List ℕ → List ℕ
packed_row b xs = digits 256 (row_bytes b (length xs)) (value (2 ^ b) xs * 2 ^ filler_bits b (length xs))

-- The row of n numbers that bytes hold. `row_filler` is the number that the filler bits write.
unfoldable pub unpacked_row : ℕ → ℕ → List ℕ → List ℕ
unpacked_row b n bytes = digits (2 ^ b) n (value 256 bytes / 2 ^ filler_bits b n)

unfoldable pub row_filler : ℕ → ℕ → List ℕ → ℕ
row_filler b n bytes = value 256 bytes % 2 ^ filler_bits b n

-- Every number of a list is below b. Past the end of the list `get_or` gives 0.
abbrev pub Below : ℕ → List ℕ → Type 0
Below b xs = (k : ℕ) → get_or xs k 0 < b
