-- Parts of a word in which every two labels cross equally often, from any list of eight labels: a letter with its
-- inverse and the empty word; two far letters in either order; j k j and k j k. The labels may be any numbers, and may
-- occur more than once.
use Prim.Native.Nat.{ℕ, ◌+◌, ◌≤◌, ◌<◌}
use mathlib.Core.Path.{◌≡◌, refl, sym, ap, ap₂, ◌∙◌}
use mathlib.Core.Bool.{Bool, true, false, cond}
use mathlib.Core.List.{List, [], ◌∷◌}
use mathlib.Core.Logic.{inl, inr, ⊎_elim}
use native.Mathlib.Omega.{arith}
use lib.IntN.{ℤ, pos, ◌+ℤ◌, +ℤ_assoc, +ℤ_comm}
use lib.ListN.{length, get_or}
use Rattle.base.specs.Lists.{tally}
use Rattle.word.specs.Letters.{is_letter, is_inverse, generator, inverse}
use Rattle.word.specs.Exponent.{exponent_sum}
use Rattle.word.specs.Strands.{swapped, list_after}
use Rattle.word.proofs.LetterLaws.{generator_below, inverse_generator, Apart, Neighbours}
use Rattle.word.proofs.ExponentLaws.{same_sign, opposite}
use Rattle.word.proofs.StrandLaws.{length_swapped, swapped_first, swapped_second, swapped_other}
use Rattle.word_crossing.specs.Crossings.{both, swaps, swapping, crossings_from}
use Rattle.word_crossing.proofs.CrossingLaws.{both_turned, crossings_append}

-- the signed number of crossings of every two labels is the same in v and w, from any list of eight
abbrev pub SameCrossings : List ℕ → List ℕ → Type 0
SameCrossings w v =
    (labels : List ℕ) → length labels ≡ 8 → (a b : ℕ) → crossings_from labels a b v ≡ crossings_from labels a b w

-- a letter's sign, plus 1 or minus 1
abbrev sign : ℕ → ℤ
sign c = exponent_sum (c ∷ [])

module _ (a b : ℕ) where
  -- what a letter of sign s adds if it finds the labels p and q
  abbrev adds : ℤ → ℕ → ℕ → ℤ
  adds s p q = cond (both a b p q) s (pos 0)

  -- ---- a letter with generator g: the last one, and one before others

  last : (labels : List ℕ) (c g : ℕ) → generator c ≡ g
      → crossings_from labels a b (c ∷ []) ≡ adds (sign c) (get_or labels g 0) (get_or labels (g + 1) 0)
  unfolding crossings_from swapping swaps exponent_sum tally
  last labels c g e = rw (← e) (go (both a b (get_or labels (generator c) 0) (get_or labels (generator c + 1) 0)))
    where
      go : (t : Bool) → exponent_sum (cond t (c ∷ []) []) ≡ cond t (sign c) (pos 0)
      go true = refl
      go false = refl

  first : (labels : List ℕ) (c g : ℕ) (w : List ℕ) → generator c ≡ g
      → crossings_from labels a b (c ∷ w)
      ≡ adds (sign c) (get_or labels g 0) (get_or labels (g + 1) 0) +ℤ crossings_from (swapped g labels) a b w
  unfolding list_after
  first labels c g w e =
      crossings_append a b labels (c ∷ []) w
      ∙ ap₂ (λ (m : ℤ) (i : ℕ). m +ℤ crossings_from (swapped i labels) a b w) (last labels c g e) e

  module _ (labels : List ℕ) where
    -- ---- a letter and its inverse find the same two labels

    cancels : (c : ℕ) → is_letter c ≡ true → generator c + 1 < length labels
        → crossings_from labels a b (c ∷ inverse c ∷ []) ≡ pos 0
    cancels c e h =
        let g = generator c in
        first labels c g (inverse c ∷ []) refl
        ∙ ap (λ (m : ℤ). adds (sign c) (get_or labels g 0) (get_or labels (g + 1) 0) +ℤ m)
        (last (swapped g labels) (inverse c) g (inverse_generator c e)
        ∙ ap (λ (t : Bool). cond t (sign (inverse c)) (pos 0))
        (ap₂ (both a b) (swapped_first g labels h) (swapped_second g labels h)
        ∙ both_turned a b (get_or labels g 0) (get_or labels (g + 1) 0)))
        ∙ go (both a b (get_or labels g 0) (get_or labels (g + 1) 0))
      where
        go : (t : Bool) → cond t (sign c) (pos 0) +ℤ cond t (sign (inverse c)) (pos 0) ≡ pos 0
        go true = opposite c e
        go false = refl

    -- ---- far letters find the same labels in either order

    stays : (c d k : ℕ) → Apart c d → generator d ≤ k → k ≤ generator d + 1
        → get_or (swapped (generator c) labels) k 0 ≡ get_or labels k 0
    stays c d k (inl f) l h = swapped_other (generator c) labels k (λ e. omega arith) (λ e. omega arith)
    stays c d k (inr f) l h = swapped_other (generator c) labels k (λ e. omega arith) (λ e. omega arith)

    one_by_one : (c d : ℕ) → Apart c d
        → crossings_from labels a b (c ∷ d ∷ []) ≡ crossings_from labels a b (c ∷ [])
        +ℤ crossings_from labels a b (d ∷ [])
    unfolding list_after
    one_by_one c d f =
        crossings_append a b labels (c ∷ []) (d ∷ [])
        ∙ ap (λ (m : ℤ). crossings_from labels a b (c ∷ []) +ℤ m)
        (last (swapped (generator c) labels) d (generator d) refl
        ∙ ap₂ (adds (sign d)) (stays c d (generator d) f (omega arith) (omega arith))
        (stays c d (generator d + 1) f (omega arith) (omega arith))
        ∙ sym (last labels d (generator d) refl))

    -- ---- three letters of two neighbours: the labels p q r become r q p, and every two of them cross once

    module _ (j k : ℕ) (n : generator j + 1 ≡ generator k) (h : generator j + 1 + 1 < length labels) where
      abbrev g : ℕ
      g = generator j

      abbrev p : ℕ
      p = get_or labels g 0

      abbrev q : ℕ
      q = get_or labels (g + 1) 0

      abbrev r : ℕ
      r = get_or labels (g + 1 + 1) 0

      long : (i : ℕ) → g + 1 + 1 < length (swapped i labels)
      long i = omega (arith, length_swapped i labels)

      lower_first : crossings_from labels a b (j ∷ k ∷ j ∷ [])
          ≡ adds (sign j) p q +ℤ (adds (sign k) p r +ℤ adds (sign j) q r)
      lower_first =
          first labels j g (k ∷ j ∷ []) refl
          ∙ ap (λ (m : ℤ). adds (sign j) p q +ℤ m)
          (first (swapped g labels) k (g + 1) (j ∷ []) (sym n)
          ∙ ap₂ (λ (m n : ℤ). m +ℤ n)
          (ap₂ (adds (sign k)) (swapped_second g labels (omega arith))
          (swapped_other g labels (g + 1 + 1) (λ e. omega arith) (λ e. omega arith)))
          (last (swapped (g + 1) (swapped g labels)) j g refl
          ∙ ap₂ (adds (sign j))
          (swapped_other (g + 1) (swapped g labels) g (λ e. omega arith) (λ e. omega arith)
          ∙ swapped_first g labels (omega arith))
          (swapped_first (g + 1) (swapped g labels) (long g)
          ∙ swapped_other g labels (g + 1 + 1) (λ e. omega arith) (λ e. omega arith))))

      upper_first : crossings_from labels a b (k ∷ j ∷ k ∷ [])
          ≡ adds (sign k) q r +ℤ (adds (sign j) p r +ℤ adds (sign k) p q)
      upper_first =
          first labels k (g + 1) (j ∷ k ∷ []) (sym n)
          ∙ ap (λ (m : ℤ). adds (sign k) q r +ℤ m)
          (first (swapped (g + 1) labels) j g (k ∷ []) refl
          ∙ ap₂ (λ (m n : ℤ). m +ℤ n)
          (ap₂ (adds (sign j)) (swapped_other (g + 1) labels g (λ e. omega arith) (λ e. omega arith))
          (swapped_first (g + 1) labels h))
          (last (swapped g (swapped (g + 1) labels)) k (g + 1) (sym n)
          ∙ ap₂ (adds (sign k))
          (swapped_second g (swapped (g + 1) labels) (omega (arith, long (g + 1)))
          ∙ swapped_other (g + 1) labels g (λ e. omega arith) (λ e. omega arith))
          (swapped_other g (swapped (g + 1) labels) (g + 1 + 1) (λ e. omega arith) (λ e. omega arith)
          ∙ swapped_second (g + 1) labels h)))

      reversed : (x y z : ℤ) → x +ℤ (y +ℤ z) ≡ z +ℤ (y +ℤ x)
      reversed x y z = +ℤ_comm x (y +ℤ z) ∙ ap (λ (m : ℤ). m +ℤ x) (+ℤ_comm y z) ∙ +ℤ_assoc z y x

      either_first : sign j ≡ sign k
          → crossings_from labels a b (j ∷ k ∷ j ∷ []) ≡ crossings_from labels a b (k ∷ j ∷ k ∷ [])
      either_first s =
          lower_first
          ∙ (λ i. adds (s i) p q +ℤ (adds (sym s i) p r +ℤ adds (s i) q r))
          ∙ reversed (adds (sign k) p q) (adds (sign j) p r) (adds (sign k) q r)
          ∙ sym upper_first

-- ---- the parts

module _ (c : ℕ) (e : is_letter c ≡ true) where
  pub crossings_cancelled : SameCrossings (c ∷ inverse c ∷ []) []
  unfolding crossings_from swapping exponent_sum tally
  crossings_cancelled labels l a b = sym (cancels a b labels c e (omega (arith, generator_below c e)))

module _ (c d : ℕ) (e : is_letter c ≡ true) (e' : is_letter d ≡ true) where
  pub crossings_exchanged : Apart c d → SameCrossings (c ∷ d ∷ []) (d ∷ c ∷ [])
  crossings_exchanged f labels l a b =
      one_by_one a b labels d c (⊎_elim inr inl f)
      ∙ +ℤ_comm (crossings_from labels a b (d ∷ [])) (crossings_from labels a b (c ∷ []))
      ∙ sym (one_by_one a b labels c d f)

  pub crossings_braided : is_inverse c ≡ is_inverse d → Neighbours c d → SameCrossings (c ∷ d ∷ c ∷ []) (d ∷ c ∷ d ∷ [])
  crossings_braided s (inl n) labels l a b =
      sym (either_first a b labels c d n (omega (arith, generator_below d e')) (same_sign c d e e' s))
  crossings_braided s (inr n) labels l a b =
      either_first a b labels d c n (omega (arith, generator_below c e)) (same_sign d c e' e (sym s))
