-- Laws of rows of codes, as a move writes them: a loop that moves codes two places to the front, `copy_within`
-- that moves them two places to the end, and two or three stores in a row. The word is the first n codes of the row.
use Prim.Native.Nat.{ℕ, ◌+◌, ◌-◌, ◌≤◌, ◌<◌}
use mathlib.Core.Path.{◌≡◌, sym, ap, ap₂, ◌∙◌}
use mathlib.Core.List.{List, [], ◌∷◌, ◌++◌, append_assoc}
use native.Mathlib.Numerals.{add-one, add-two}
use native.Mathlib.Omega.{arith}
use lib.ListN.{length, take, drop, get_or, set, length-append, length-drop}
use lib.Seq.{length-take-le, take-add, take-take, take_at, take-set-lt, drop-drop}
use lib.Seq.{drop_at, get_or-append-add, get_or-drop, sets-eq}
use Rattle.std.specs.List.{copy_within}
use Rattle.std.proofs.lemmas.List.{take-append-le}
use Rattle.std.proofs.lemmas.List.Edits.{length-paste, take-paste}
use Rattle.base.specs.Lists.{overlaid}
use Rattle.base.proofs.ListLaws.{overlay_step}
use Rattle.word.specs.Cancellation.{removal}
use Rattle.move_kinds.specs.steps.Leaving.{insert_two}

-- ---- codes that move two places to the front

module _ (part : List ℕ) where
  -- the codes ahead of the loop are unchanged, so the loop reads the right code
  ahead : (k : ℕ) → k + 2 < length part → get_or (take k (drop 2 part) ++ drop k part) (k + 2) 0
      ≡ get_or (drop 2 part) k 0
  ahead k h =
      let m : length (take k (drop 2 part)) ≡ k = length-take-le k (drop 2 part) (omega (arith, length-drop 2 part)) in
      let e : k + 2 ≡ 2 + k = omega arith in
      ap (λ (i : ℕ). get_or (take k (drop 2 part) ++ drop k part) (i + 2) 0) (sym m)
      ∙ get_or-append-add (take k (drop 2 part)) (drop k part) 2 0
      ∙ get_or-drop k part 2 0
      ∙ ap (λ (i : ℕ). get_or part i 0) e
      ∙ sym (get_or-drop 2 part k 0)

  pub up_step : (codes : List ℕ) (k : ℕ) → k + 2 < length part → codes ≡ take k (drop 2 part) ++ drop k part
      → set codes k (get_or codes (k + 2) 0) ≡ take (k + 1) (drop 2 part) ++ drop (k + 1) part
  up_step codes k h e =
      ap (λ (r : List ℕ). set r k (get_or r (k + 2) 0)) e
      ∙ ap (λ (x : ℕ). set (take k (drop 2 part) ++ drop k part) k x) (ahead k h)
      ∙ overlay_step (drop 2 part) part k (omega (arith, length-drop 2 part)) (omega arith)

-- ---- a word in a row

module _ (row : List ℕ) (n place : ℕ) (h : place ≤ n) (l : n ≤ length row) where
  front_length : length (take place row) ≡ place
  front_length = length-take-le place row (omega arith)

  -- the word's front and the word's rest, as parts of the row
  front_is : take place (take n row) ≡ take place row
  front_is = take-take place n row h

  rest_is : drop place (take n row) ≡ take (n - place) (drop place row)
  rest_is =
      let e : n ≡ place + (n - place) = omega arith in
      ap (λ (i : ℕ). drop place (take i row)) e
      ∙ ap (drop place) (take-add place (n - place) row)
      ∙ drop_at (take place row) (take (n - place) (drop place row)) place front_length

-- ---- stores in a row

module _ (row : List ℕ) (n p a b : ℕ) where
  pub store_two : p + 2 ≤ n → n ≤ length row
      → take n (set (set row p a) (p + 1) b) ≡ take p (take n row) ++ (a ∷ b ∷ drop (p + 2) (take n row))
  store_two h l =
      let m : length (take n row) ≡ n = length-take-le n row l in
      take-set-lt n (set row p a) (p + 1) b (omega arith)
      ∙ ap (λ (r : List ℕ). set r (p + 1) b) (take-set-lt n row p a (omega arith))
      ∙ ap (λ (i : ℕ). set (set (take n row) p a) i b) (add-one p)
      ∙ sets-eq (a ∷ b ∷ []) (take n row) p (omega arith)
      ∙ append_assoc (take p (take n row)) (a ∷ b ∷ []) (drop (p + 2) (take n row))

  pub store_three : (c : ℕ) → p + 3 ≤ n → n ≤ length row
      → take n (set (set (set row p a) (p + 1) b) (p + 2) c)
      ≡ take p (take n row) ++ (a ∷ b ∷ c ∷ drop (p + 3) (take n row))
  store_three c h l =
      let m : length (take n row) ≡ n = length-take-le n row l in
      take-set-lt n (set (set row p a) (p + 1) b) (p + 2) c (omega arith)
      ∙ ap (λ (r : List ℕ). set r (p + 2) c)
      (take-set-lt n (set row p a) (p + 1) b (omega arith)
      ∙ ap (λ (r : List ℕ). set r (p + 1) b) (take-set-lt n row p a (omega arith)))
      ∙ ap₂ (λ (i j : ℕ). set (set (set (take n row) p a) i b) j c) (add-one p) (add-two p)
      ∙ sets-eq (a ∷ b ∷ c ∷ []) (take n row) p (omega arith)
      ∙ append_assoc (take p (take n row)) (a ∷ b ∷ c ∷ []) (drop (p + 3) (take n row))

-- ---- codes that move by two places

-- the codes up to the end of xs, where more codes follow in the part and in the row
up_to : (row xs ys zs : List ℕ) (place m : ℕ) → place ≤ length row → place + length xs ≡ m
    → take m (take place row ++ ((xs ++ ys) ++ zs)) ≡ take place row ++ xs
up_to row xs ys zs place m h e =
    ap (take m)
    (ap (λ (r : List ℕ). take place row ++ r) (append_assoc xs ys zs)
    ∙ sym (append_assoc (take place row) xs (ys ++ zs)))
    ∙ take_at (take place row ++ xs) (ys ++ zs) m
    (omega (arith, length-append (take place row) xs, length-take-le place row h))

-- two letters are removed
pub removed : (row rest : List ℕ) (n place : ℕ) → place + 2 ≤ n → n ≤ length row
    → take (n - 2)
    (take place row
    ++ (overlaid (drop 2 (take (n - place) (drop place row))) (take (n - place) (drop place row)) ++ rest))
    ≡ (removal place (take n row)).word
unfolding overlaid
removed row rest n place h l =
    let p = take (n - place) (drop place row) in
    let m : length p ≡ n - place = length-take-le (n - place) (drop place row) (omega (arith, length-drop place row)) in
    up_to row (drop 2 p) (drop (length (drop 2 p)) p) rest place (n - 2) (omega arith)
    (omega (arith, length-drop 2 p, m))
    ∙ ap₂ (λ (x y : List ℕ). x ++ y) (sym (front_is row n place (omega arith) l))
    (ap (drop 2) (sym (rest_is row n place (omega arith) l)) ∙ drop-drop 2 place (take n row))

-- two letters are inserted
pub inserted : (row : List ℕ) (n place c d : ℕ) → place ≤ n → n + 2 ≤ length row
    → take (n + 2) (set (set (copy_within row place n (place + 2)) place c) (place + 1) d)
    ≡ insert_two c d place (take n row)
inserted row n place c d h l =
    let new : List ℕ = copy_within row place n (place + 2) in
    let front = take (place + 2) row in
    let rest = take (n - place) (drop place row) in
    let few : n - place ≤ length (drop place row) = omega (arith, length-drop place row) in
    let e : n + 2 ≡ place + 2 + (n - place) = omega arith in
    let moved : take (n + 2) new ≡ front ++ rest =
    ap (λ (i : ℕ). take i new) e ∙ take-paste row (place + 2) (drop place row) (n - place) (omega arith) few in
    let same : length new ≡ length row =
    length-paste row (place + 2) (drop place row) (n - place) (omega arith) few in
    let two : length front ≡ place + 2 = length-take-le (place + 2) row (omega arith) in
    store_two new (n + 2) place c d (omega arith) (omega arith)
    ∙ ap (λ (w : List ℕ). take place w ++ (c ∷ d ∷ drop (place + 2) w)) moved
    ∙ ap₂ (λ (x y : List ℕ). x ++ (c ∷ d ∷ y))
    (take-append-le place front rest (omega arith) ∙ take-take place (place + 2) row (omega arith)
    ∙ sym (front_is row n place h (omega arith)))
    (drop_at front rest (place + 2) two ∙ sym (rest_is row n place h (omega arith)))
