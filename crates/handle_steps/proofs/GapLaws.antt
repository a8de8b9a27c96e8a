-- Laws of the row with a gap. If no handle ends with the first code after the gap, the code moves before the gap, and
-- the word stays. If a handle ends there, what is written around the gap is the word after one step.
use Prim.Native.Nat.{ℕ, ◌+◌, ◌-◌, ◌≤◌, ◌<◌}
use mathlib.Core.Path.{◌≡◌, refl, sym, ap, ap₂, ◌∙◌, subst}
use mathlib.Core.Bool.{Bool, true, false, cond}
use mathlib.Core.List.{List, [], ◌∷◌, ◌++◌}
use native.Mathlib.Numerals.{add-one}
use native.Mathlib.Omega.{arith}
use borrow.Author.Tests.{ltb-true}
use lib.Dec.{ltb}
use lib.ListN.{length, take, drop, get_or, set, length-append, length-drop}
use lib.Seq.{length-take-le, drop-cons, take-suc-set, drop-set-lt}
use lib.Seq.{append_snoc, take-take, take-append-le, drop_at, drop-drop}
use lib.Seq.{drop-append-le, get_or-take, take-add}
use Rattle.base.specs.Lists.{every}
use Rattle.base.proofs.ListLaws.{every_append, and_left, every_get_d}
use Rattle.word.specs.Letters.{is_letter}
use Rattle.word.proofs.LetterLaws.{Lettered, letter_below}
use Rattle.braid_handles.specs.Handles.{start_of, ends, has_handle, conjugated, stepped}
use Rattle.braid_handles.proofs.HandleLaws.{Free, start_next, free_next, free_take, handle_here, step_next}
use Rattle.handle_row.specs.steps.Gaps.{gapped, beginning, Conjugates}

-- ---- the word: the front u, the first code c after the gap, and the codes v after it

module _ (row : List ℕ) (left right : ℕ) (h : left < right) (r : right < length row) where
  abbrev u : List ℕ
  u = take left row

  abbrev c : ℕ
  c = get_or row right 0

  abbrev v : List ℕ
  v = drop (right + 1) row

  front : length (take left row) ≡ left
  front = length-take-le left row (omega arith)

  rest_is : drop right row ≡ c ∷ v
  rest_is = drop-cons row right 0 r ∙ ap (λ (n : ℕ). c ∷ drop n row) (sym (add-one right))

  word_is : gapped row left right ≡ u ++ (c ∷ v)
  word_is = ap (λ (t : List ℕ). u ++ t) rest_is

  start_is : start_of (gapped row left right) left ≡ start_of (u ++ (c ∷ v)) (length u)
  start_is = ap₂ start_of word_is (sym front)

  ends_is : ends (gapped row left right) left ≡ ends (u ++ (c ∷ v)) (length u)
  ends_is = ap₂ ltb start_is (sym front)

  -- ---- no handle ends with the code

  not_ended : beginning row left right ≡ 0 → ends (gapped row left right) left ≡ false
  not_ended e = go (ends (gapped row left right) left) refl
    where
      go : (b : Bool) → ends (gapped row left right) left ≡ b → ends (gapped row left right) left ≡ false
      go true t =
          absurd
          (let z : start_of (gapped row left right) left + 1 ≡ 0 =
          ap (λ (b : Bool). cond b (start_of (gapped row left right) left + 1) 0) (sym t) ∙ e in
          omega arith)
      go false t = t

  module _ (row' : List ℕ) (e : row' ≡ set row left (get_or row right 0)) where
    front_more : take (left + 1) row' ≡ u ++ (c ∷ [])
    front_more =
        ap₂ take (add-one left) e ∙ take-suc-set row left (get_or row right 0) (omega arith)

    pub word_stays : gapped row' (left + 1) (right + 1) ≡ gapped row left right
    word_stays =
        ap₂ (λ (x y : List ℕ). x ++ y) front_more
        (ap (drop (right + 1)) e ∙ drop-set-lt (right + 1) row left (get_or row right 0) (omega arith))
        ∙ append_snoc u c v
        ∙ sym word_is

    pub front_free : Free (take left row) → beginning row left right ≡ 0 → Free (take (left + 1) row')
    front_free free b =
        rw front_more
        (free_next u c v free
        (ap (λ (s : ℕ). ltb s (length u)) (sym (start_next u c v)) ∙ sym ends_is ∙ not_ended b))

  -- ---- a handle ends with the code, and begins right before place `own`

  module _ (own : ℕ) (o : own ≡ beginning row left right) (some : 0 < own) where
    ended : ends (gapped row left right) left ≡ true
    ended = go (ends (gapped row left right) left) refl
      where
        go : (b : Bool) → ends (gapped row left right) left ≡ b → ends (gapped row left right) left ≡ true
        go true t = t
        go false t =
            absurd
            (let z : own ≡ 0 = o ∙ ap (λ (b : Bool). cond b (start_of (gapped row left right) left + 1) 0) t in
            omega arith)

    start_own : own ≡ start_of (gapped row left right) left + 1
    start_own = o ∙ ap (λ (b : Bool). cond b (start_of (gapped row left right) left + 1) 0) ended

    pub own_inside : own ≤ left
    own_inside = omega (arith, start_own, ltb-true (start_of (gapped row left right) left) left ended)

    ended_next : ends (u ++ (c ∷ v)) (length u) ≡ true
    ended_next = sym ends_is ∙ ended

    start_before : start_of (u ++ (c ∷ v)) (length u) ≡ own - 1
    start_before = omega (arith, start_is, start_own)

    pub one_left : Free (take left row) → has_handle (gapped row left right) ≡ true
    one_left free = ap has_handle word_is ∙ handle_here u c v free ended_next

    -- the letters between the ends
    between_is : drop own u ≡ take (left - own) (drop own row)
    between_is =
        let e : left ≡ own + (left - own) = omega (arith, own_inside) in
        ap (λ (n : ℕ). drop own (take n row)) e
        ∙ ap (drop own) (take-add own (left - own) row)
        ∙ drop_at (take own row) (take (left - own) (drop own row)) own
        (length-take-le own row (omega (arith, own_inside)))

    step_is : Free (take left row)
        → stepped (gapped row left right)
        ≡ take (own - 1) row
        ++ (conjugated (get_or row (own - 1) 0) (take (left - own) (drop own row)) ++ drop (right + 1) row)
    step_is free =
        let up : own - 1 + 1 ≡ own = omega arith in
        let few : own - 1 < left = omega (arith, own_inside) in
        ap stepped word_is
        ∙ step_next u c v free ended_next
        ∙ ap (λ (p : ℕ). take p u ++ (conjugated (get_or u p 0) (drop (p + 1) u) ++ v)) start_before
        ∙ ap₂ (λ (x y : List ℕ). x ++ (y ++ v)) (take-take (own - 1) left row (omega arith))
        (ap₂ conjugated (get_or-take left row (own - 1) 0 few) (ap (λ (n : ℕ). drop n u) up ∙ between_is))

    -- how long the word is after the step
    pub step_long : Free (take left row)
        → length (stepped (gapped row left right)) + (right + 1)
        ≡ own - 1 + length (conjugated (get_or row (own - 1) 0) (take (left - own) (drop own row))) + length row
    step_long free =
        let mid : List ℕ = conjugated (get_or row (own - 1) 0) (take (left - own) (drop own row)) in
        omega (
          arith,
          ap length (step_is free),
          length-append (take (own - 1) row) (mid ++ drop (right + 1) row),
          length-append mid (drop (right + 1) row),
          length-take-le (own - 1) row (omega (arith, own_inside)),
          length-drop (right + 1) row,
        )

    pub first_letter : Lettered (gapped row left right) → get_or row (own - 1) 0 < 16
    first_letter letters =
        let few : own - 1 < left = omega (arith, own_inside) in
        let t =
        every_get_d is_letter (take left row)
        (and_left (every is_letter (take left row)) (every is_letter (drop right row))
        (sym (every_append is_letter (take left row) (drop right row)) ∙ letters))
        (own - 1) (omega (arith, front)) in
        omega (arith, letter_below (get_or (take left row) (own - 1) 0) t, get_or-take left row (own - 1) 0 few)

    -- the part from the handle's first end on; at its end stands what replaces the letters between
    module _ (part' : List ℕ) (at : ℕ) (size : length part' ≡ length (take (right + 1 - own) (drop own row)))
        (w : Conjugates (take (right + 1 - own) (drop own row)) part' (left - own) (get_or row (own - 1) 0) at) where
      abbrev row' : List ℕ
      row' = take own row ++ (part' ++ drop (right + 1 - own) (drop own row))

      many : length part' ≡ right + 1 - own
      many =
          size
          ∙ length-take-le (right + 1 - own) (drop own row) (omega (arith, length-drop own row, own_inside))

      mid_is : take (left - own) (take (right + 1 - own) (drop own row)) ≡ take (left - own) (drop own row)
      mid_is = take-take (left - own) (right + 1 - own) (drop own row) (omega (arith, own_inside))

      own_length : length (take own row) ≡ own
      own_length = length-take-le own row (omega (arith, own_inside))

      pub at_is : at + length (conjugated (get_or row (own - 1) 0) (take (left - own) (drop own row))) ≡ right + 1 - own
      at_is =
          omega (arith, w.place, ap (λ (x : List ℕ). length (conjugated (get_or row (own - 1) 0) x)) mid_is, size, many)

      pub front_stays : take (own - 1) row' ≡ take (own - 1) row
      front_stays =
          take-append-le (own - 1) (take own row) (part' ++ drop (right + 1 - own) (drop own row))
          (omega (arith, own_length))
          ∙ take-take (own - 1) own row (omega arith)

      rest_after : drop (own + at) row'
          ≡ conjugated (get_or row (own - 1) 0) (take (left - own) (drop own row)) ++ drop (right + 1) row
      rest_after =
          let rest : List ℕ = drop (right + 1 - own) (drop own row) in
          let up : own + (right + 1 - own) ≡ right + 1 = omega (arith, own_inside) in
          sym (drop-drop at own row')
          ∙ ap (drop at) (drop_at (take own row) (part' ++ rest) own own_length)
          ∙ drop-append-le at part' rest (omega (arith, at_is, many))
          ∙ ap₂ (λ (x y : List ℕ). x ++ y)
          (w.end_is ∙ ap (conjugated (get_or row (own - 1) 0)) mid_is)
          (drop-drop (right + 1 - own) own row ∙ ap (λ (n : ℕ). drop n row) up)

      pub word_after : Free (take left row) → gapped row' (own - 1) (own + at) ≡ stepped (gapped row left right)
      word_after free = ap₂ (λ (x y : List ℕ). x ++ y) front_stays rest_after ∙ sym (step_is free)

      pub length_after : length row' ≡ length row
      length_after =
          let rest : List ℕ = drop (right + 1 - own) (drop own row) in
          omega (
            arith,
            length-append (take own row) (part' ++ rest),
            length-append part' rest,
            own_length,
            many,
            length-drop (right + 1 - own) (drop own row),
            length-drop own row,
            own_inside,
          )

      pub free_after : Free (take left row) → Free (take (own - 1) row')
      free_after free =
          rw front_stays
          (subst Free (take-take (own - 1) left row (omega (arith, own_inside)))
          (free_take (own - 1) (take left row) free))
