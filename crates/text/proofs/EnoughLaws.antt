-- Laws of how many bytes are enough to read: more bytes; a part of a file; a function that a part of the file picks; a
-- function that uses only the first bytes of a long file; answers, and what `granted` makes of them; several files.
use Prim.Native.Nat.{ℕ, zero, suc, ◌+◌, ◌≤◌, ◌<◌}
use native.Mathlib.Decide.{dec_le, ℕ_discrete}
use native.Mathlib.Omega.{arith}
use mathlib.Core.Path.{◌≡◌, refl, sym, ap, ◌∙◌}
use mathlib.Core.List.{List, [], ◌∷◌}
use lib.ListN.{length, take, length-take}
use lib.Seq.{take_all, take-take}
use Rattle.base.specs.Questions.{granted}
use Rattle.base.specs.Digits.{part}
use Rattle.base.proofs.QuestionLaws.{granted_zero, granted_refused}
use Rattle.text.specs.Enough.{Enough, EnoughOfTwo, EnoughOfThree}

-- if n bytes are enough, more bytes are enough
enough_more {ℓ} : {A : Type ℓ} (f : List ℕ → A) (n m : ℕ) → n ≤ m → Enough n f → Enough m f
enough_more f n m h e file = sym (e (take m file)) ∙ ap f (take-take n m file h) ∙ e file

-- n bytes are enough for a function g that f picks, if they are enough for f and for each g that it may pick
pub enough_picked {ℓ} : {A B : Type ℓ} (f : List ℕ → A) (g : A → List ℕ → B) (n : ℕ) → Enough n f
    → ((x : A) → Enough n (g x))
    → Enough n (λ file. g (f file) file)
enough_picked f g n e each file = ap (λ x. g x (take n file)) (e file) ∙ each (f file) file

-- a part of the file that ends within the first n bytes
pub enough_part : (at size n : ℕ) → at + size ≤ n → Enough n (part at size)
enough_part zero size n h file = take-take size n file (omega arith)
enough_part (suc at) size zero h file = absurd (omega arith)
enough_part (suc at) size (suc n) h [] = refl
enough_part (suc at) size (suc n) h (x ∷ file) = enough_part at size n (omega arith) file

-- If f uses only the first k bytes of a file that has more than n bytes, then any number of bytes over n is enough.
pub enough_long {ℓ} : {A : Type ℓ} (f g : List ℕ → A) (k n m : ℕ) → k ≤ n → n < m
    → ((file : List ℕ) → n < length file → f file ≡ g (take k file))
    → Enough m f
enough_long f g k n m h l long = enough_more f (suc n) m l (λ file. go file (dec_le (length file) (suc n)))
  where
    go : (file : List ℕ) → Dec (length file ≤ suc n) → f (take (suc n) file) ≡ f file
    go file (yes s) = ap f (take_all (suc n) file s)
    go file (no s) =
        let size : length (take (suc n) file) ≡ suc n = rw length-take (omega arith) in
        long (take (suc n) file) (omega arith) ∙ ap g (take-take k (suc n) file (omega arith))
        ∙ sym (long file (omega arith))

-- ---- answers

-- if the first n bytes of a file are accepted, they are the whole file
abbrev pub Whole : ℕ → (List ℕ → ℕ) → Type 0
Whole n answer = (file : List ℕ) → answer (take n file) ≡ 0 → take n file ≡ file

-- If every file of more than n bytes is refused, then m bytes that are accepted are the whole file, for m over n.
pub whole_long : (answer : List ℕ → ℕ) (n m : ℕ) → n < m → ((file : List ℕ) → n < length file → answer file ≡ 0 → ⊥)
    → Whole m answer
whole_long answer n m h long file a = go (dec_le (length file) m)
  where
    go : Dec (length file ≤ m) → take m file ≡ file
    go (yes s) = take_all m file s
    go (no s) =
        let size : length (take m file) ≡ m = rw length-take (omega arith) in
        absurd (long (take m file) (omega arith) a)

-- `granted` gives the same for equal answers, if the first values are equal on answer 0 and the second values are equal
pub granted_alike {ℓ} : {A : Type ℓ} {a b : ℕ} (x y z t : A) → a ≡ b → (a ≡ 0 → x ≡ y) → z ≡ t
    → granted a x z ≡ granted b y t
granted_alike {a = a} {b = b} x y z t e same rest = go (ℕ_discrete a 0)
  where
    go : Dec (a ≡ 0) → granted a x z ≡ granted b y t
    go (yes d) = granted_zero x z d ∙ same d ∙ sym (granted_zero y t (sym e ∙ d))
    go (no h) = granted_refused x z h ∙ rest ∙ sym (granted_refused y t (λ d. h (e ∙ d)))

pub enough_granted {ℓ} : {A : Type ℓ} (answer : List ℕ → ℕ) (f g : List ℕ → A) (n : ℕ) → Enough n answer
    → Whole n answer → Enough n g
    → Enough n (λ file. granted (answer file) (f file) (g file))
enough_granted answer f g n e whole rest file =
    granted_alike (f (take n file)) (f file) (g (take n file)) (g file) (e file) (λ z. ap f (whole file z)) (rest file)

-- ---- several files

-- if enough is read of each of two or three files, enough is read of all
pub enough_of_two {ℓ} : {A : Type ℓ} (f : List ℕ → List ℕ → A) (m n : ℕ) → ((y : List ℕ) → Enough m (λ x. f x y))
    → ((x : List ℕ) → Enough n (f x))
    → EnoughOfTwo m n f
enough_of_two f m n a b x y = a (take n y) x ∙ b x y

pub enough_of_three {ℓ} : {A : Type ℓ} (f : List ℕ → List ℕ → List ℕ → A) (l m n : ℕ)
    → ((y z : List ℕ) → Enough l (λ x. f x y z))
    → ((x : List ℕ) → EnoughOfTwo m n (f x)) → EnoughOfThree l m n f
enough_of_three f l m n a b x y z = a (take m y) (take n z) x ∙ b x y z
