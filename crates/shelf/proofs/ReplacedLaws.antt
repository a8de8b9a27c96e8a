-- Laws of a list in which bytes were replaced: its length, the part that was replaced, and every part beside it.
use Prim.Native.Nat.{ℕ, ◌+◌, ◌-◌, ◌≤◌}
use mathlib.Core.Path.{◌≡◌, sym, ap, ap₂, ◌∙◌}
use mathlib.Core.List.{List, [], ◌++◌, append_assoc, append-nil}
use native.Mathlib.Omega.{arith}
use lib.ListN.{length, take, drop, length-append, length-drop, take-append-drop, drop_of_length-le}
use lib.Seq.{length-take-le, take_all, drop_at, drop-append-le, take-append-le, drop-append-add, drop-drop}
use Rattle.base.specs.Lists.{overlaid}
use Rattle.base.specs.Digits.{part}
use Rattle.base.proofs.ListLaws.{length_overlaid, take_overlaid}
use Rattle.text.proofs.EnoughLaws.{enough_part}
use Rattle.shelf.specs.Shelves.{replaced}

-- a part of the first of two lists
part_front : (i n : ℕ) (xs ys : List ℕ) → i + n ≤ length xs → part i n (xs ++ ys) ≡ part i n xs
part_front i n xs ys h =
    ap (take n) (drop-append-le i xs ys (omega arith))
    ∙ take-append-le n (drop i xs) ys (omega (arith, length-drop i xs))

-- what comes after the first of two lists
drop_back : (i : ℕ) (xs ys : List ℕ) → length xs ≤ i → drop i (xs ++ ys) ≡ drop (i - length xs) ys
drop_back i xs ys h =
    let e : i ≡ length xs + (i - length xs) = omega arith in
    ap (λ (k : ℕ). drop k (xs ++ ys)) e ∙ drop-append-add xs ys (i - length xs)

module _ (at : ℕ) (bytes before : List ℕ) (fits : at + length bytes ≤ length before) where
  front : length (take at before) ≡ at
  front = length-take-le at before (omega arith)

  pub length_replaced : length (replaced at bytes before) ≡ length before
  unfolding replaced
  length_replaced =
      let room : length bytes ≤ length (drop at before) = omega (arith, length-drop at before) in
      omega (
        arith,
        length-append (take at before) (overlaid bytes (drop at before)),
        front,
        length_overlaid bytes (drop at before) room,
        length-drop at before,
      )

  -- the bytes stand at their place
  pub part_replaced : part at (length bytes) (replaced at bytes before) ≡ bytes
  unfolding replaced
  part_replaced =
      ap (take (length bytes)) (drop_at (take at before) (overlaid bytes (drop at before)) at front)
      ∙ take_overlaid bytes (drop at before)

  -- a part of the bytes
  pub part_inside : (i n : ℕ) → i + n ≤ length bytes → part (at + i) n (replaced at bytes before) ≡ part i n bytes
  part_inside i n h =
      let now = replaced at bytes before in
      ap (take n) (sym (drop-drop i at now))
      ∙ sym (enough_part i n (length bytes) h (drop at now))
      ∙ ap (part i n) part_replaced

  -- a part that ends at the place or before it
  pub part_before : (i n : ℕ) → i + n ≤ at → part i n (replaced at bytes before) ≡ part i n before
  unfolding replaced
  part_before i n h =
      let room : i + n ≤ length (take at before) = omega (arith, front) in
      part_front i n (take at before) (overlaid bytes (drop at before)) room
      ∙ sym (part_front i n (take at before) (drop at before) room)
      ∙ ap (part i n) (take-append-drop at before)

  -- a part that begins after the bytes
  pub part_after : (i n : ℕ) → at + length bytes ≤ i → part i n (replaced at bytes before) ≡ part i n before
  unfolding replaced overlaid
  part_after i n h =
      let rest = drop (length bytes) (drop at before) in
      let both = take at before ++ bytes in
      let l : length both ≡ at + length bytes =
      length-append (take at before) bytes ∙ ap (λ (k : ℕ). k + length bytes) front in
      let e : at + length bytes + (i - length both) ≡ i = omega arith in
      ap (take n)
      (ap (drop i) (sym (append_assoc (take at before) bytes rest))
      ∙ drop_back i both rest (omega arith)
      ∙ ap (drop (i - length both)) (drop-drop (length bytes) at before)
      ∙ drop-drop (i - length both) (at + length bytes) before
      ∙ ap (λ (k : ℕ). drop k before) e)

-- a part that is replaced by itself
pub replaced_same : (at n : ℕ) (before : List ℕ) → at + n ≤ length before
    → replaced at (part at n before) before ≡ before
unfolding replaced overlaid
replaced_same at n before h =
    let l : length (part at n before) ≡ n =
    length-take-le n (drop at before) (omega (arith, length-drop at before)) in
    ap (λ (k : ℕ). take at before ++ (part at n before ++ drop k (drop at before))) l
    ∙ ap (λ (xs : List ℕ). take at before ++ xs) (take-append-drop n (drop at before))
    ∙ take-append-drop at before

-- everything from the place on is lent, and comes back with the bytes at its front
pub put_back : (at : ℕ) (bytes before last : List ℕ) → at + length bytes ≤ length before
    → last
    ≡ overlaid (take (length (take (length before - at) (drop at before))) bytes)
    (take (length before - at) (drop at before))
    → take at before ++ (last ++ drop (length before - at) (drop at before)) ≡ replaced at bytes before
unfolding replaced
put_back at bytes before last h e =
    let l = length-drop at before in
    let rest : take (length before - at) (drop at before) ≡ drop at before =
    take_all (length before - at) (drop at before) (omega arith) in
    let past : length (drop at before) ≤ length before - at = omega arith in
    let end : drop (length before - at) (drop at before) ≡ [] = drop_of_length-le (drop at before) past in
    ap₂ (λ (xs ys : List ℕ). take at before ++ (xs ++ ys))
    (e
    ∙ ap (λ (xs : List ℕ). overlaid (take (length xs) bytes) xs) rest
    ∙ ap (λ (xs : List ℕ). overlaid xs (drop at before)) (take_all (length (drop at before)) bytes (omega arith)))
    end
    ∙ ap (λ (xs : List ℕ). take at before ++ xs) (append-nil (overlaid bytes (drop at before)))
