-- Laws of lists of numbers: a test of every element, lists of values, two lists compared, how many elements pass a
-- test, and the output after a writer.
use Prim.Native.Nat.{ℕ, zero, suc, ◌+◌, ◌≤◌, ◌<◌, zero-le, suc-le-suc}
use mathlib.Core.Path.{◌≡◌, refl, sym, ap, ap₂, ◌∙◌}
use mathlib.Core.Bool.{Bool, true, false, cond, ◌&&◌, beq, true≢false, false≢true}
use mathlib.Core.List.{List, [], ◌∷◌, ◌++◌, append_assoc, append-nil}
use native.Mathlib.Nat.{not-suc-le-zero, le_of_suc-le-suc, zero-lt-suc, add-zero, add-suc, zero-add, suc-add}
use native.Mathlib.Numerals.{add-one}
use native.Mathlib.Omega.{arith}
use native.Mathlib.Decide.{ℕ_discrete}
use borrow.Author.Tests.{eqb-true, eq-eqb}
use lib.Dec.{eqb}
use lib.Pointwise.{pointwise}
use lib.ListN.{length, take, drop, get_or, set, length-append, length-take, length-drop, take-append-drop}
use lib.Seq.{take-suc, drop-cons, length-take-le, drop-nil, drop-drop, drop-length, take-length, take_all, take_at}
use lib.Seq.{drop_at, set_at, append_snoc, take-append_seam, drop-append_seam, drop-append-le, ext_get_or}
use lib.Seq.{get_or-set_same}
use lib.Seq.{get_or-set_other}
use Rattle.base.specs.Lists.{every, values_from, values, equal, overlaid, tally}

-- ---- two tests at once

pub and_left : (a b : Bool) → a && b ≡ true → a ≡ true
and_left true b e = refl
and_left false b e = e

pub and_right : (a b : Bool) → a && b ≡ true → b ≡ true
and_right true b e = e
and_right false b e = absurd (false≢true e)

pub and_both : {a b : Bool} → a ≡ true → b ≡ true → a && b ≡ true
and_both {b = b} p q = ap (λ (t : Bool). t && b) p ∙ q

pub and_true : (a : Bool) → a && true ≡ a
and_true true = refl
and_true false = refl

pub and_false : (a : Bool) → a && false ≡ false
and_false true = refl
and_false false = refl

and_assoc : (a b c : Bool) → a && b && c ≡ a && (b && c)
and_assoc true b c = refl
and_assoc false b c = refl

-- what is not true is false
pub not_true_false : (b : Bool) → (b ≡ true → ⊥) → b ≡ false
not_true_false true h = absurd (h refl)
not_true_false false h = refl

-- two tests that compute to the same answer are equal
pub beq_true : (a b : Bool) → beq a b ≡ true → a ≡ b
beq_true true true e = refl
beq_true true false e = absurd (false≢true e)
beq_true false true e = absurd (false≢true e)
beq_true false false e = refl

-- a test is not both true and false
pub true_false : (b : Bool) → b ≡ true → b ≡ false → ⊥
true_false b p q = true≢false (sym p ∙ q)

-- ---- a test of every element

module _ (f : ℕ → Bool) where
  -- if `every` holds, each element passes
  pub every_get_d : (xs : List ℕ) → every f xs ≡ true → (k : ℕ) → k < length xs → f (get_or xs k 0) ≡ true
  unfolding every
  every_get_d [] e k h = absurd (not-suc-le-zero h)
  every_get_d (x ∷ xs) e zero h = and_left (f x) (every f xs) e
  every_get_d (x ∷ xs) e (suc k) h = every_get_d xs (and_right (f x) (every f xs) e) k (le_of_suc-le-suc h)

  -- if each element passes, `every` holds
  pub every_from : (xs : List ℕ) → ((k : ℕ) → k < length xs → f (get_or xs k 0) ≡ true) → every f xs ≡ true
  unfolding every
  every_from [] h = refl
  every_from (x ∷ xs) h = and_both (h zero (zero-lt-suc (length xs))) (every_from xs (λ k l. h (suc k) (suc-le-suc l)))

  -- if one element fails, `every` fails
  pub every_refuted : (xs : List ℕ) (k : ℕ) → k < length xs → f (get_or xs k 0) ≡ false → every f xs ≡ false
  every_refuted xs k h e = not_true_false (every f xs) (λ t. true_false (f (get_or xs k 0)) (every_get_d xs t k h) e)

  pub every_append : (xs ys : List ℕ) → every f (xs ++ ys) ≡ every f xs && every f ys
  unfolding every
  every_append [] ys = refl
  every_append (x ∷ xs) ys =
      ap (λ (b : Bool). f x && b) (every_append xs ys) ∙ sym (and_assoc (f x) (every f xs) (every f ys))

  -- the first k elements and the rest
  every_split : (k : ℕ) (xs : List ℕ) → every f xs ≡ every f (take k xs) && every f (drop k xs)
  every_split k xs = ap (every f) (sym (take-append-drop k xs)) ∙ every_append (take k xs) (drop k xs)

  pub every_take : (k : ℕ) (xs : List ℕ) → every f xs ≡ true → every f (take k xs) ≡ true
  every_take k xs e = and_left (every f (take k xs)) (every f (drop k xs)) (sym (every_split k xs) ∙ e)

  pub every_drop : (k : ℕ) (xs : List ℕ) → every f xs ≡ true → every f (drop k xs) ≡ true
  every_drop k xs e = and_right (every f (take k xs)) (every f (drop k xs)) (sym (every_split k xs) ∙ e)

  -- one turn of a loop: the first k + 1 elements pass if the first k do and element k does
  pub every_more : (xs : List ℕ) (k : ℕ) → k < length xs
      → every f (take (k + 1) xs) ≡ every f (take k xs) && f (get_or xs k 0)
  unfolding every
  every_more xs k h =
      rw (add-one k, take-suc xs k 0 h)
      (every_append (take k xs) (get_or xs k 0 ∷ [])
      ∙ ap (λ (b : Bool). every f (take k xs) && b) (and_true (f (get_or xs k 0))))

  -- For a test that 0 passes: if at most one element comes after the first n, `every` holds of these elements exactly
  -- if place n passes.
  pub every_last : f 0 ≡ true → (xs : List ℕ) (n : ℕ) → length xs ≤ n + 1 → every f (drop n xs) ≡ f (get_or xs n 0)
  unfolding every
  every_last z [] n h = ap (every f) (drop-nil n) ∙ sym z
  every_last z (x ∷ []) zero h = and_true (f x)
  every_last z (x ∷ y ∷ xs) zero h = absurd (omega arith)
  every_last z (x ∷ xs) (suc n) h = every_last z xs n (omega arith)

  -- for a test that 0 passes, every place passes, also past the end
  pub every_all : f 0 ≡ true → (xs : List ℕ) → every f xs ≡ true → (k : ℕ) → f (get_or xs k 0) ≡ true
  unfolding every
  every_all z [] e k = z
  every_all z (x ∷ xs) e zero = and_left (f x) (every f xs) e
  every_all z (x ∷ xs) e (suc k) = every_all z xs (and_right (f x) (every f xs) e) k

  -- for a test that 0 passes, one more place, also past the end
  pub every_more_all : f 0 ≡ true → (xs : List ℕ) (k : ℕ)
      → every f (take (k + 1) xs) ≡ every f (take k xs) && f (get_or xs k 0)
  unfolding every
  every_more_all z xs k = rw (add-one k) (go xs k)
    where
      go : (xs : List ℕ) (k : ℕ) → every f (take (suc k) xs) ≡ every f (take k xs) && f (get_or xs k 0)
      go [] zero = sym z
      go [] (suc k) = sym z
      go (x ∷ xs) zero = and_true (f x)
      go (x ∷ xs) (suc k) =
          ap (λ (b : Bool). f x && b) (go xs k) ∙ sym (and_assoc (f x) (every f (take k xs)) (f (get_or xs k 0)))

-- ---- values in a row

pub length_values : (f : ℕ → ℕ) (i n : ℕ) → length (values_from f i n) ≡ n
unfolding values_from
length_values f i zero = refl
length_values f i (suc n) = ap suc (length_values f (suc i) n)

get_d_values_from : (f : ℕ → ℕ) (i n k : ℕ) → k < n → get_or (values_from f i n) k 0 ≡ f (i + k)
unfolding values_from
get_d_values_from f i zero k h = absurd (not-suc-le-zero h)
get_d_values_from f i (suc n) zero h = ap f (sym (add-zero i))
get_d_values_from f i (suc n) (suc k) h =
    get_d_values_from f (suc i) n k (le_of_suc-le-suc h) ∙ ap f (suc-add i k ∙ sym (add-suc i k))

pub get_d_values : (f : ℕ → ℕ) (n k : ℕ) → k < n → get_or (values f n) k 0 ≡ f k
get_d_values f n k h = get_d_values_from f 0 n k h ∙ ap f (zero-add k)

-- a list that has the values of f is the list of values
pub values_of : (f : ℕ → ℕ) (n : ℕ) (l : List ℕ) → length l ≡ n → ((k : ℕ) → k < n → get_or l k 0 ≡ f k) → l
    ≡ values f n
values_of f n l e h =
    ext_get_or 0 l (values f n) (e ∙ sym (length_values f 0 n))
    (λ k b. let b' : k < n = omega arith in h k b' ∙ sym (get_d_values f n k b'))

-- a loop that fills a list: it has the values at the places before i, and then also at i
pub one_more : (f : ℕ → ℕ) (l : List ℕ) (i v : ℕ) → i < length l → ((k : ℕ) → k < i → get_or l k 0 ≡ f k) → v ≡ f i
    → (k : ℕ) → k < i + 1 → get_or (set l i v) k 0 ≡ f k
one_more f l i v h before e k b = at (ℕ_discrete k i)
  where
    at : Dec (k ≡ i) → get_or (set l i v) k 0 ≡ f k
    at (yes d) = rw d (get_or-set_same l i v 0 h ∙ e)
    at (no n) = get_or-set_other l i k v 0 n ∙ before k (omega arith)

-- a test of the values, one by one
pub every_values : (t : ℕ → Bool) (f : ℕ → ℕ) (n : ℕ) → every t (values f n) ≡ true → (k : ℕ) → k < n → t (f k) ≡ true
every_values t f n e k h =
    let l : k < length (values f n) = rw (length_values f 0 n) h in
    ap t (sym (get_d_values f n k h)) ∙ every_get_d t (values f n) e k l

-- ---- two lists compared

pub equal_true : (xs ys : List ℕ) → equal xs ys ≡ true → xs ≡ ys
unfolding equal
equal_true [] [] e = refl
equal_true [] (y ∷ ys) e = absurd (false≢true e)
equal_true (x ∷ xs) [] e = absurd (false≢true e)
equal_true (x ∷ xs) (y ∷ ys) e =
    ap₂ (λ (z : ℕ) (zs : List ℕ). z ∷ zs) (eqb-true x y (and_left (eqb x y) (equal xs ys) e))
    (equal_true xs ys (and_right (eqb x y) (equal xs ys) e))

-- what `==` computes of two slices
pub pointwise_equal : (xs ys : List ℕ) → pointwise eqb xs ys ≡ equal xs ys
unfolding equal
pointwise_equal [] [] = refl
pointwise_equal [] (y ∷ ys) = refl
pointwise_equal (x ∷ xs) [] = refl
pointwise_equal (x ∷ xs) (y ∷ ys) = ap (λ (b : Bool). eqb x y && b) (pointwise_equal xs ys)

pub equal_refl : (xs : List ℕ) → equal xs xs ≡ true
unfolding equal
equal_refl [] = refl
equal_refl (x ∷ xs) = and_both (eq-eqb x x refl) (equal_refl xs)

pub equal_of : {xs ys : List ℕ} → xs ≡ ys → equal xs ys ≡ true
equal_of {xs} e = ap (equal xs) (sym e) ∙ equal_refl xs

pub equal_false : (xs ys : List ℕ) → (xs ≡ ys → ⊥) → equal xs ys ≡ false
equal_false xs ys h = not_true_false (equal xs ys) (λ t. h (equal_true xs ys t))

-- ---- how many elements pass a test

module _ (f : ℕ → Bool) where
  pub tally_append : (xs ys : List ℕ) → tally f (xs ++ ys) ≡ tally f xs + tally f ys
  unfolding tally
  tally_append [] ys = sym (zero-add (tally f ys))
  tally_append (x ∷ xs) ys = go (f x) (tally_append xs ys)
    where
      go : (b : Bool) → tally f (xs ++ ys) ≡ tally f xs + tally f ys
          → cond b (suc (tally f (xs ++ ys))) (tally f (xs ++ ys)) ≡ cond b (suc (tally f xs)) (tally f xs) + tally f ys
      go true e = omega arith
      go false e = e

  -- one more element
  pub tally_more : (xs : List ℕ) (k : ℕ) → k < length xs
      → tally f (take (k + 1) xs) ≡ cond (f (get_or xs k 0)) (tally f (take k xs) + 1) (tally f (take k xs))
  unfolding tally
  tally_more xs k h =
      rw (add-one k, take-suc xs k 0 h) (tally_append (take k xs) (get_or xs k 0 ∷ []) ∙ go (f (get_or xs k 0)))
    where
      go : (b : Bool) → tally f (take k xs) + cond b 1 0 ≡ cond b (tally f (take k xs) + 1) (tally f (take k xs))
      go true = refl
      go false = omega arith

  -- no more elements pass than there are
  pub tally_le : (xs : List ℕ) → tally f xs ≤ length xs
  unfolding tally
  tally_le [] = zero-le
  tally_le (x ∷ xs) = go (f x) (tally_le xs)
    where
      go : (b : Bool) → tally f xs ≤ length xs → cond b (suc (tally f xs)) (tally f xs) ≤ suc (length xs)
      go true e = omega arith
      go false e = omega arith

-- ---- the output after a writer

-- one turn of a loop that writes bytes: the first i bytes are written, the others are unchanged
pub overlay_step : (bytes out : List ℕ) (i : ℕ) → i < length bytes → i < length out
    → set (take i bytes ++ drop i out) i (get_or bytes i 0) ≡ take (i + 1) bytes ++ drop (i + 1) out
overlay_step bytes out i p q =
    rw (add-one i, drop-cons out i 0 q, take-suc bytes i 0 p)
    (set_at (take i bytes) (get_or out i 0) (drop (suc i) out) (get_or bytes i 0) i
    (length-take-le i bytes (omega arith))
    ∙ sym (append_snoc (take i bytes) (get_or bytes i 0) (drop (suc i) out)))

pub overlay_whole : (bytes out : List ℕ) (i : ℕ) → i ≡ length bytes → take i bytes ++ drop i out ≡ overlaid bytes out
unfolding overlaid
overlay_whole bytes out i e = rw (e, take-length bytes)

pub length_overlaid : (bytes out : List ℕ) → length bytes ≤ length out → length (overlaid bytes out) ≡ length out
unfolding overlaid
length_overlaid bytes out h =
    omega (arith, length-append bytes (drop (length bytes) out), length-drop (length bytes) out)

pub take_overlaid : (bytes out : List ℕ) → take (length bytes) (overlaid bytes out) ≡ bytes
unfolding overlaid
take_overlaid bytes out = take-append_seam bytes (drop (length bytes) out)

pub drop_overlaid : (bytes out : List ℕ) → drop (length bytes) (overlaid bytes out) ≡ drop (length bytes) out
unfolding overlaid
drop_overlaid bytes out = drop-append_seam bytes (drop (length bytes) out)

-- the bytes ys after the bytes xs at the front of an output
pub overlaid_append : (xs ys out : List ℕ) → overlaid (xs ++ ys) out ≡ xs ++ overlaid ys (drop (length xs) out)
unfolding overlaid
overlaid_append xs ys out =
    append_assoc xs ys (drop (length (xs ++ ys)) out)
    ∙ ap (λ (l : List ℕ). xs ++ (ys ++ l))
    (ap (λ (n : ℕ). drop n out) (length-append xs ys) ∙ sym (drop-drop (length ys) (length xs) out))

-- a part after the bytes xs is lent, and comes back as ys
pub laid_more : (xs ys out now : List ℕ) (i n : ℕ) → now ≡ overlaid xs out → length xs ≡ i → length ys ≡ n
    → take i now ++ (ys ++ drop n (drop i now)) ≡ overlaid (xs ++ ys) out
unfolding overlaid
laid_more xs ys out now i n o lx ly =
    let rest = drop (length xs) out in
    rw (o, take_at xs rest i lx, drop_at xs rest i lx, ← ly) (sym (overlaid_append xs ys out))

-- n places after the bytes xs are lent, and come back with ys at their front
pub overlaid_more : (xs ys out now : List ℕ) (i n : ℕ) → i ≡ length xs → length ys ≤ n → i + length ys ≤ length out
    → now ≡ overlaid xs out
    → take i now ++ (overlaid ys (take n (drop i now)) ++ drop n (drop i now)) ≡ overlaid (xs ++ ys) out
unfolding overlaid
overlaid_more xs ys out now i n e h l o =
    let rest = drop i now in
    let few : length ys ≤ length (take n rest) =
    omega (arith, length-take n rest, length-drop i now, ap length o, length_overlaid xs out (omega arith)) in
    ap (λ (w : List ℕ). take i now ++ w)
    (append_assoc ys (drop (length ys) (take n rest)) (drop n rest)
    ∙ ap (λ (w : List ℕ). ys ++ w)
    (sym (drop-append-le (length ys) (take n rest) (drop n rest) few)
    ∙ ap (drop (length ys)) (take-append-drop n rest)))
    ∙ laid_more xs ys out now i (length ys) o (sym e) refl

-- bytes that fill the whole output
pub overlaid_all : (bytes out : List ℕ) → length bytes ≡ length out
    → overlaid (take (length out) bytes) out ≡ overlaid bytes out
overlaid_all bytes out e = ap (λ (l : List ℕ). overlaid l out) (take_all (length out) bytes (omega arith))

pub overlaid_whole : (bytes out : List ℕ) → length bytes ≡ length out → overlaid bytes out ≡ bytes
unfolding overlaid
overlaid_whole bytes out e = rw (e, drop-length out) (append-nil bytes)
