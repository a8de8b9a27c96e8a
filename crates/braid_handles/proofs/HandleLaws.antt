-- Laws of handles. Whether a handle goes from p to q depends only on the letters up to q. So a front of a word without
-- handles has no handle. After a front without handles, the next letter decides whether the earliest handle ends with
-- it.
use Prim.Native.Nat.{ℕ, ◌+◌, ◌-◌, ◌≤◌, ◌<◌}
use mathlib.Core.Path.{◌≡◌, refl, sym, ap, ◌∙◌}
use mathlib.Core.Bool.{Bool, true, false, cond, ◌&&◌}
use mathlib.Core.List.{List, [], ◌∷◌, ◌++◌}
use native.Mathlib.Decide.{dec_lt}
use native.Mathlib.Omega.{arith}
use borrow.Author.Tests.{ltb-true, ltb-false, lt-ltb}
use lib.Dec.{ltb, eqb}
use lib.ListN.{length, take, drop, get_or, length-append, length-take, length-drop, take-append-drop, get_or-append}
use lib.Seq.{take_all, take-append-le, drop-append-le, drop-append-add, append_snoc}
use lib.Seq.{get_or-take, get_or-drop}
use Rattle.base.specs.Lists.{first_from, every}
use Rattle.base.proofs.ListLaws.{every_get_d, every_from, true_false, not_true_false}
use Rattle.word.specs.Letters.{inverse}
use Rattle.braid_handles.specs.Handles.{between, avoids, is_handle, start_of, ends, earliest_end, has_handle}
use Rattle.braid_handles.specs.Handles.{conjugated, handle_reduced, stepped}
use Rattle.braid_handles.proofs.FirstPlaces.{found_passes, before_found, found_at, found_alike}

-- ---- the letters between two places

-- the letters between two places are letters of the front if the later place is not past the front
between_front : (p q : ℕ) (u v : List ℕ) → p < q → q ≤ length u → between p q (u ++ v) ≡ between p q u
between_front p q u v h l =
    ap (take (q - (p + 1))) (drop-append-le (p + 1) u v (omega arith))
    ∙ take-append-le (q - (p + 1)) (drop (p + 1) u) v (omega (arith, length-drop (p + 1) u))

module _ (f : ℕ → Bool) (p q : ℕ) (w : List ℕ) (l : q ≤ length w) where
  pub inside : every f (between p q w) ≡ true → (i : ℕ) → p < i → i < q → f (get_or w i 0) ≡ true
  inside e i a b =
      let k : ℕ = i - (p + 1) in
      let n : ℕ = q - (p + 1) in
      let s : p + 1 + k ≡ i = omega arith in
      let many : k < length (between p q w) =
      omega (arith, length-take n (drop (p + 1) w), length-drop (p + 1) w) in
      ap f
      (ap (λ (j : ℕ). get_or w j 0) (sym s)
      ∙ sym (get_or-drop (p + 1) w k 0)
      ∙ sym (get_or-take n (drop (p + 1) w) k 0 (omega arith)))
      ∙ every_get_d f (between p q w) e k many

  pub inside_all : ((i : ℕ) → p < i → i < q → f (get_or w i 0) ≡ true) → every f (between p q w) ≡ true
  inside_all h =
      let n : ℕ = q - (p + 1) in
      every_from f (between p q w)
      (λ k b.
      let few : k < n = omega (arith, length-take n (drop (p + 1) w)) in
      ap f (get_or-take n (drop (p + 1) w) k 0 few ∙ get_or-drop (p + 1) w k 0)
      ∙ h (p + 1 + k) (omega arith) (omega arith))

-- ---- a front of the word

module _ (u v : List ℕ) where
  handle_front : (p q : ℕ) → p < q → q < length u → is_handle (u ++ v) p q ≡ is_handle u p q
  unfolding is_handle
  handle_front p q h l =
      let a : get_or (u ++ v) p 0 ≡ get_or u p 0 = get_or-append u v 0 p (omega arith) in
      let b : get_or (u ++ v) q 0 ≡ get_or u q 0 = get_or-append u v 0 q l in
      λ i. eqb (b i) (inverse (a i)) && every (avoids (a i)) (between_front p q u v h (omega arith) i)

  start_front : (q : ℕ) → q < length u → start_of (u ++ v) q ≡ start_of u q
  unfolding start_of
  start_front q l =
      found_alike (λ p. is_handle (u ++ v) p q) (λ p. is_handle u p q) 0 q (λ p a b. handle_front p q (omega arith) l)

  -- a handle ends at a place of the front exactly if one ends there in the whole word
  ends_front : (q : ℕ) → q < length u → ends (u ++ v) q ≡ ends u q
  ends_front q l = ap (λ (k : ℕ). ltb k q) (start_front q l)

-- ---- words without handles

-- the word has no handle
abbrev pub Free : List ℕ → Type 0
Free w = has_handle w ≡ false

pub free_ends : (w : List ℕ) → Free w → (q : ℕ) → q < length w → ends w q ≡ false
unfolding earliest_end
free_ends w e q l = before_found (ends w) (length w) q (omega (arith, ltb-false (earliest_end w) (length w) e))

pub ends_free : (w : List ℕ) → ((q : ℕ) → q < length w → ends w q ≡ false) → Free w
unfolding earliest_end
ends_free w h = not_true_false (has_handle w) wrong
  where
    wrong : has_handle w ≡ true → ⊥
    wrong e =
        let l = ltb-true (earliest_end w) (length w) e in
        true_false (ends w (earliest_end w)) (found_passes (ends w) (length w) l) (h (earliest_end w) l)

pub free_nil : Free []
unfolding earliest_end first_from
free_nil = refl

-- a front of a word without handles has none
free_front : (u v : List ℕ) → Free (u ++ v) → Free u
free_front u v e =
    ends_free u (λ q l. sym (ends_front u v q l) ∙ free_ends (u ++ v) e q (omega (arith, length-append u v)))

pub free_take : (k : ℕ) (w : List ℕ) → Free w → Free (take k w)
free_take k w e = free_front (take k w) (drop k w) (rw (take-append-drop k w) e)

-- ---- the letter after a front without handles

module _ (u : List ℕ) (c : ℕ) (v : List ℕ) where
  -- whether a handle ends with the letter c, and where that handle begins, does not depend on the letters after c
  pub start_next : start_of (u ++ (c ∷ v)) (length u) ≡ start_of (u ++ (c ∷ [])) (length u)
  start_next =
      ap (λ (w : List ℕ). start_of w (length u)) (sym (append_snoc u c v))
      ∙ start_front (u ++ (c ∷ [])) v (length u) (omega (arith, length-append u (c ∷ [])))

  -- the letters between place p and this letter
  between_next : (p : ℕ) → p < length u → between p (length u) (u ++ (c ∷ v)) ≡ drop (p + 1) u
  between_next p l =
      between_front p (length u) u (c ∷ v) l (omega arith)
      ∙ take_all (length u - (p + 1)) (drop (p + 1) u) (omega (arith, length-drop (p + 1) u))

  module _ (free : Free u) where
    no_earlier : (q : ℕ) → q < length u → ends (u ++ (c ∷ v)) q ≡ false
    no_earlier q l = ends_front u (c ∷ v) q l ∙ free_ends u free q l

    module _ (e : ends (u ++ (c ∷ v)) (length u) ≡ true) where
      -- if a handle ends with this letter, it is the handle that ends earliest
      earliest_next : earliest_end (u ++ (c ∷ v)) ≡ length u
      unfolding earliest_end
      earliest_next =
          found_at (ends (u ++ (c ∷ v))) (length (u ++ (c ∷ v))) (length u) (omega (arith, length-append u (c ∷ v))) e
          no_earlier

      pub handle_here : has_handle (u ++ (c ∷ v)) ≡ true
      handle_here =
          lt-ltb (earliest_end (u ++ (c ∷ v))) (length (u ++ (c ∷ v)))
          (omega (arith, earliest_next, length-append u (c ∷ v)))

      -- the step takes out the handle that ends with this letter
      pub step_next : stepped (u ++ (c ∷ v))
          ≡ take (start_of (u ++ (c ∷ v)) (length u)) u
          ++ (conjugated (get_or u (start_of (u ++ (c ∷ v)) (length u)) 0)
          (drop (start_of (u ++ (c ∷ v)) (length u) + 1) u) ++ v)
      unfolding stepped
      step_next =
          let w : List ℕ = u ++ (c ∷ v) in
          let p : ℕ = start_of w (length u) in
          let l : p < length u = ltb-true p (length u) e in
          ap (λ (b : Bool). cond b (handle_reduced (start_of w (earliest_end w)) (earliest_end w) w) w) handle_here
          ∙ ap (λ (q : ℕ). handle_reduced (start_of w q) q w) earliest_next
          ∙ (λ i. take-append-le p u (c ∷ v) (omega arith) i
          ++ (conjugated (get_or-append u (c ∷ v) 0 p l i) (between_next p l i) ++ after_seam i))
        where
          after_seam : drop (length u + 1) (u ++ (c ∷ v)) ≡ v
          after_seam = drop-append-add u (c ∷ v) 1

  -- if no handle ends with this letter, the front and this letter have no handle
  pub free_next : Free u → ends (u ++ (c ∷ [])) (length u) ≡ false → Free (u ++ (c ∷ []))
  free_next free e =
      ends_free (u ++ (c ∷ [])) (λ q l. go q l (dec_lt q (length u)))
    where
      go : (q : ℕ) → q < length (u ++ (c ∷ [])) → Dec (q < length u) → ends (u ++ (c ∷ [])) q ≡ false
      go q l (yes a) = ends_front u (c ∷ []) q a ∙ free_ends u free q a
      go q l (no a) =
          let s : q ≡ length u = omega (arith, length-append u (c ∷ [])) in
          ap (ends (u ++ (c ∷ []))) s ∙ e

-- ---- the handle that ends earliest

pub earliest_ends : (w : List ℕ) → has_handle w ≡ true → ends w (earliest_end w) ≡ true
unfolding earliest_end
earliest_ends w e = found_passes (ends w) (length w) (ltb-true (earliest_end w) (length w) e)
