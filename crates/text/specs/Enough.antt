-- How many bytes of a file are enough to read: a function gives the same for these bytes as for the whole file, however
-- long the file is.
use Rattle.std.specs.Prelude.{ℕ, ◌≡◌, List, take}

-- The first n bytes of a file are enough for the function f.
abbrev pub Enough {ℓ} : {A : Type ℓ} → ℕ → (List ℕ → A) → Type ℓ
Enough n f = (file : List ℕ) → f (take n file) ≡ f file

-- The first m bytes of one file and the first n bytes of another are enough.
abbrev pub EnoughOfTwo {ℓ} : {A : Type ℓ} → ℕ → ℕ → (List ℕ → List ℕ → A) → Type ℓ
EnoughOfTwo m n f = (first second : List ℕ) → f (take m first) (take n second) ≡ f first second

-- The first l, m and n bytes of three files are enough.
abbrev pub EnoughOfThree {ℓ} : {A : Type ℓ} → ℕ → ℕ → ℕ → (List ℕ → List ℕ → List ℕ → A) → Type ℓ
EnoughOfThree l m n f =
    (first second third : List ℕ) → f (take l first) (take m second) (take n third) ≡ f first second third
