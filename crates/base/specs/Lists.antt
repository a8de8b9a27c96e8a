-- Lists of numbers: a test of every element, bytes, how often a number occurs, the first number that passes a test, the
-- values of a function in a row, two lists compared, and the output after a writer.
use Rattle.std.specs.Prelude.{ℕ, zero, suc, ◌≡◌, Bool, true, false, cond, ◌&&◌, List, [], ◌∷◌, ◌++◌, eqb, ltb}
use Rattle.std.specs.Prelude.{length, drop}

-- every element passes the test
unfoldable pub every : (ℕ → Bool) → List ℕ → Bool
every f [] = true
every f (x ∷ xs) = f x && every f xs

-- a list of bytes: what a lent slice can hold
abbrev pub Bytes : List ℕ → Type 0
Bytes xs = every (λ b. ltb b 256) xs ≡ true

-- how many elements pass the test
unfoldable pub tally : (ℕ → Bool) → List ℕ → ℕ
tally f [] = 0
tally f (x ∷ xs) = cond (f x) (suc (tally f xs)) (tally f xs)

-- how often a number occurs
abbrev pub count : ℕ → List ℕ → ℕ
count a xs = tally (λ x. eqb x a) xs

-- the first of the n numbers from k on that passes a test; k + n where none of them does
unfoldable pub first_from : (ℕ → Bool) → ℕ → ℕ → ℕ
first_from f k zero = k
first_from f k (suc n) = cond (f k) k (first_from f (suc k) n)

-- f i, f (i + 1), ..: n values in a row
unfoldable pub values_from : (ℕ → ℕ) → ℕ → ℕ → List ℕ
values_from f i zero = []
values_from f i (suc n) = f i ∷ values_from f (suc i) n

-- f 0, f 1, .., f (n - 1)
abbrev pub values : (ℕ → ℕ) → ℕ → List ℕ
values f n = values_from f 0 n

unfoldable pub equal : List ℕ → List ℕ → Bool
equal [] [] = true
equal [] (y ∷ ys) = false
equal (x ∷ xs) [] = false
equal (x ∷ xs) (y ∷ ys) = eqb x y && equal xs ys

-- an output after a writer: the bytes stand in its first places, and the rest is unchanged
unfoldable pub overlaid : List ℕ → List ℕ → List ℕ
overlaid bytes out = bytes ++ drop (length bytes) out

-- is the list 0 to n - 1, each once?
unfoldable pub each_once : ℕ → List ℕ → Bool
each_once n xs = every (λ x. ltb x n) xs && every (λ a. eqb (count a xs) 1) (values (λ a. a) n)
