-- Laws of the number of words between two lists: by the first letter, by the last letter (the recurrence that the code
-- follows), and a bound.
use Prim.Native.Nat.{ℕ, zero, suc, ◌+◌, ◌*◌, ◌^◌, ◌≤◌, ◌<◌}
use mathlib.Core.Path.{◌≡◌, refl, sym, ap, ◌∙◌}
use mathlib.Core.Bool.{Bool, true, false, cond}
use mathlib.Core.List.{List, [], ◌∷◌, ◌++◌, map}
use native.Mathlib.Nat.{pow-suc}
use native.Mathlib.Numerals.{add-one}
use native.Mathlib.Omega.{arith}
use lib.ListN.{length, length-append, length-map}
use Rattle.base.specs.Lists.{values_from, equal}
use Rattle.base.proofs.ListLaws.{equal_true, equal_of, true_false}
use Rattle.word.specs.Strands.{swapped, list_after}
use Rattle.word.proofs.StrandLaws.{length_swapped, swapped_twice}
use Rattle.word_spread.specs.Spread.{each_in_front, rows_of, those, six_letters, words_of, four_labels, words_between}
use Rattle.word_spread.specs.Spread.{ending}

-- ---- rows that pass a test

-- how many rows pass
passing : (List ℕ → Bool) → List (List ℕ) → ℕ
passing f rows = length (those f rows)

module _ (f : List ℕ → Bool) where
  passing_append : (rows others : List (List ℕ)) → passing f (rows ++ others) ≡ passing f rows + passing f others
  unfolding passing those
  passing_append [] others = omega arith
  passing_append (row ∷ rows) others = go (f row) (passing_append rows others)
    where
      go : (b : Bool) → length (those f (rows ++ others)) ≡ length (those f rows) + length (those f others)
          → length (cond b (row ∷ those f (rows ++ others)) (those f (rows ++ others)))
          ≡ length (cond b (row ∷ those f rows) (those f rows)) + length (those f others)
      go true e = omega arith
      go false e = e

  -- rows with a number in front
  passing_front : (x : ℕ) (rows : List (List ℕ))
      → passing f (map (λ row. x ∷ row) rows) ≡ passing (λ row. f (x ∷ row)) rows
  unfolding passing those
  passing_front x [] = refl
  passing_front x (row ∷ rows) = go (f (x ∷ row)) (passing_front x rows)
    where
      go : (b : Bool) → length (those f (map (λ row. x ∷ row) rows)) ≡ length (those (λ row. f (x ∷ row)) rows)
          → length (cond b ((x ∷ row) ∷ those f (map (λ row. x ∷ row) rows)) (those f (map (λ row. x ∷ row) rows)))
          ≡ length (cond b (row ∷ those (λ row. f (x ∷ row)) rows) (those (λ row. f (x ∷ row)) rows))
      go true e = ap suc e
      go false e = e

  -- the first of several numbers in front of rows, and the others
  passing_fronts : (rows : List (List ℕ)) (x : ℕ) (xs : List ℕ)
      → passing f (each_in_front rows (x ∷ xs)) ≡ passing (λ row. f (x ∷ row)) rows + passing f (each_in_front rows xs)
  unfolding each_in_front
  passing_fronts rows x xs =
      passing_append (map (λ row. x ∷ row) rows) (each_in_front rows xs)
      ∙ ap (λ (n : ℕ). n + passing f (each_in_front rows xs)) (passing_front x rows)

  -- no more pass than there are
  passing_le : (rows : List (List ℕ)) → passing f rows ≤ length rows
  unfolding passing those
  passing_le [] = omega arith
  passing_le (row ∷ rows) = go (f row) (passing_le rows)
    where
      go : (b : Bool) → length (those f rows) ≤ length rows
          → length (cond b (row ∷ those f rows) (those f rows)) ≤ suc (length rows)
      go true e = omega arith
      go false e = omega arith

-- ---- the number of words between two lists

pub between : ℕ → List ℕ → List ℕ → ℕ
between n start labels = length (words_between n start labels)

pub ending_is : (n : ℕ) (labels : List ℕ) → ending n labels ≡ between n four_labels labels
unfolding ending between
ending_is n labels = refl

stays : (b : Bool) → length (those (λ w. b) ([] ∷ [])) ≡ cond b 1 0
unfolding those
stays true = refl
stays false = refl

-- one word has no letters, and it leaves the list unchanged
pub no_letters : (start labels : List ℕ) → between 0 start labels ≡ cond (equal start labels) 1 0
unfolding between words_between rows_of those list_after
no_letters start labels = stays (equal start labels)

-- by the first letter: each of the three exchanges has two letters
pub first_letter : (n : ℕ) (start labels : List ℕ)
    → between (suc n) start labels
    ≡ 2 * (between n (swapped 0 start) labels + between n (swapped 1 start) labels + between n (swapped 2 start) labels)
unfolding between words_between rows_of passing list_after each_in_front those
first_letter n start labels =
    let f : List ℕ → Bool = λ (w : List ℕ). equal (list_after start w) labels in
    let rows = words_of n in
    omega (
      arith,
      passing_fronts f rows 0 (1 ∷ 2 ∷ 8 ∷ 9 ∷ 10 ∷ []),
      passing_fronts f rows 1 (2 ∷ 8 ∷ 9 ∷ 10 ∷ []),
      passing_fronts f rows 2 (8 ∷ 9 ∷ 10 ∷ []),
      passing_fronts f rows 8 (9 ∷ 10 ∷ []),
      passing_fronts f rows 9 (10 ∷ []),
      passing_fronts f rows 10 [],
    )

-- an exchange may be undone on either side
swap_over : (g : ℕ) (start labels : List ℕ) → g + 1 < length start → g + 1 < length labels
    → equal (swapped g start) labels ≡ equal start (swapped g labels)
swap_over g start labels h l = same (equal (swapped g start) labels) (equal start (swapped g labels)) refl refl
  where
    there : equal (swapped g start) labels ≡ true → equal start (swapped g labels) ≡ true
    there e = equal_of (sym (swapped_twice g start h) ∙ ap (swapped g) (equal_true (swapped g start) labels e))

    back : equal start (swapped g labels) ≡ true → equal (swapped g start) labels ≡ true
    back e = equal_of (ap (swapped g) (equal_true start (swapped g labels) e) ∙ swapped_twice g labels l)

    same : (a b : Bool) → equal (swapped g start) labels ≡ a → equal start (swapped g labels) ≡ b
        → equal (swapped g start) labels ≡ equal start (swapped g labels)
    same true b p q = p ∙ sym (there p)
    same false true p q = absurd (true_false (equal (swapped g start) labels) (back q) p)
    same false false p q = p ∙ sym q

-- by the last letter: the recurrence
last_letter : (n : ℕ) (start labels : List ℕ) → length start ≡ 4 → length labels ≡ 4
    → between (suc n) start labels
    ≡ 2 * (between n start (swapped 0 labels) + between n start (swapped 1 labels) + between n start (swapped 2 labels))
last_letter zero start labels s l =
    let turn : (g : ℕ) → g < 3 → between 0 (swapped g start) labels ≡ between 0 start (swapped g labels) =
    λ g h. no_letters (swapped g start) labels
    ∙ ap (λ (b : Bool). cond b 1 0) (swap_over g start labels (omega arith) (omega arith))
    ∙ sym (no_letters start (swapped g labels)) in
    omega (
      arith,
      first_letter 0 start labels,
      turn 0 (omega arith),
      turn 1 (omega arith),
      turn 2 (omega arith),
    )
last_letter (suc n) start labels s l =
    let step : (g : ℕ) → between (suc n) (swapped g start) labels
    ≡ 2 * (between n (swapped g start) (swapped 0 labels) + between n (swapped g start) (swapped 1 labels)
    + between n (swapped g start) (swapped 2 labels)) =
    λ g. last_letter n (swapped g start) labels (length_swapped g start ∙ s) l in
    omega (
      arith,
      first_letter (suc n) start labels,
      step 0,
      step 1,
      step 2,
      first_letter n start (swapped 0 labels),
      first_letter n start (swapped 1 labels),
      first_letter n start (swapped 2 labels),
    )

-- the recurrence, from the list 0 to 3
pub recurrence : (n : ℕ) (labels : List ℕ) → length labels ≡ 4
    → ending (n + 1) labels
    ≡ 2 * (ending n (swapped 0 labels) + ending n (swapped 1 labels) + ending n (swapped 2 labels))
unfolding values_from
recurrence n labels l =
    let law = last_letter n four_labels labels refl l in
    rw (
      add-one n,
      ending_is (suc n) labels,
      ending_is n (swapped 0 labels),
      ending_is n (swapped 1 labels),
      ending_is n (swapped 2 labels),
    ) law

-- ---- a bound

-- there are 6 to the power n words of n letters
all_words : (n : ℕ) → length (words_of n) ≡ 6 ^ n
unfolding rows_of each_in_front
all_words zero = refl
all_words (suc n) = go (words_of n) (all_words n)
  where
    go : (rows : List (List ℕ)) → length rows ≡ 6 ^ n → length (each_in_front rows six_letters) ≡ 6 ^ suc n
    go rows e = simp (length-append, length-map) (omega (arith, pow-suc 6 n))

-- no more words end in a list than there are
pub ending_le : (n : ℕ) (labels : List ℕ) → ending n labels ≤ 6 ^ n
unfolding ending words_between passing
ending_le n labels =
    omega (arith, passing_le (λ w. equal (list_after four_labels w) labels) (words_of n), all_words n)
