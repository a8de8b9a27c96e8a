-- Digits to a base, the most significant first, and the number that they write. The numbers packed in a file are digits
-- of the number that the file's bytes write.
use Rattle.std.specs.Prelude.{ℕ, zero, suc, ◌+◌, ◌*◌, ◌/◌, ◌%◌, ◌^◌, List, [], ◌∷◌, length, take, drop}

-- the number that digits write to base b
unfoldable pub value : ℕ → List ℕ → ℕ
value b [] = 0
value b (x ∷ xs) = x * b ^ length xs + value b xs

-- the last n digits of a number to base b, the most significant first
unfoldable pub digits : ℕ → ℕ → ℕ → List ℕ
digits b zero v = []
digits b (suc n) v = v / b ^ n % b ∷ digits b n v

-- n elements of a list from a place on
abbrev pub part : ℕ → ℕ → List ℕ → List ℕ
part at n xs = take n (drop at xs)

-- the half bytes of a row of bytes, the high half first
unfoldable pub halves : List ℕ → List ℕ
halves [] = []
halves (x ∷ xs) = x / 16 ∷ x % 16 ∷ halves xs
