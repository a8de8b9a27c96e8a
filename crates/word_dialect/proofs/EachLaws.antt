-- Laws of `each_by`: words one after another, one more letter, and how long the result is; and a code repeated.
use Prim.Native.Nat.{ℕ, zero, suc, ◌+◌, ◌≤◌, ◌<◌}
use mathlib.Core.Path.{◌≡◌, refl, sym, ap, ap₂, ◌∙◌}
use mathlib.Core.Bool.{Bool, true}
use mathlib.Core.List.{List, [], ◌∷◌, ◌++◌, append_assoc, append-nil}
use native.Mathlib.Omega.{arith}
use native.Mathlib.Numerals.{add-one}
use lib.ListN.{length, take, drop, get_or, replicate, length-append, take-append-drop}
use lib.Seq.{take-suc}
use Rattle.base.specs.Lists.{every}
use Rattle.base.proofs.ListLaws.{and_left, and_right, and_both, every_append}
use Rattle.word_dialect.specs.Dialect.{each_by}

module _ (f : ℕ → List ℕ) where
  pub each_append : (u v : List ℕ) → each_by f (u ++ v) ≡ each_by f u ++ each_by f v
  unfolding each_by
  each_append [] v = refl
  each_append (c ∷ u) v =
      ap (λ (l : List ℕ). f c ++ l) (each_append u v) ∙ sym (append_assoc (f c) (each_by f u) (each_by f v))

  -- a word of one letter
  pub each_one : (c : ℕ) → each_by f (c ∷ []) ≡ f c
  unfolding each_by
  each_one c = append-nil (f c)

  -- one more letter
  pub each_more : (w : List ℕ) (k : ℕ) → k < length w
      → each_by f (take (k + 1) w) ≡ each_by f (take k w) ++ f (get_or w k 0)
  each_more w k h =
      ap (λ (n : ℕ). each_by f (take n w)) (add-one k) ∙ ap (each_by f) (take-suc w k 0 h)
      ∙ each_append (take k w) (get_or w k 0 ∷ [])
      ∙ ap (λ (l : List ℕ). each_by f (take k w) ++ l) (each_one (get_or w k 0))

  -- the first letters give no more than all
  pub each_front : (w : List ℕ) (k : ℕ) → length (each_by f (take k w)) ≤ length (each_by f w)
  each_front w k =
      let whole : each_by f w ≡ each_by f (take k w) ++ each_by f (drop k w) =
      ap (each_by f) (sym (take-append-drop k w)) ∙ each_append (take k w) (drop k w) in
      let l = ap length whole ∙ length-append (each_by f (take k w)) (each_by f (drop k w)) in
      omega arith

  -- if what each letter gives passes a test, the whole result passes it
  pub each_every : (t s : ℕ → Bool) → ((c : ℕ) → t c ≡ true → every s (f c) ≡ true) → (w : List ℕ) → every t w ≡ true
      → every s (each_by f w) ≡ true
  unfolding each_by every
  each_every t s h [] e = refl
  each_every t s h (c ∷ w) e =
      every_append s (f c) (each_by f w)
      ∙ and_both (h c (and_left (t c) (every t w) e)) (each_every t s h w (and_right (t c) (every t w) e))

-- two functions that agree at letters give the same result
pub each_alike : (f g : ℕ → List ℕ) (t : ℕ → Bool) → ((c : ℕ) → t c ≡ true → f c ≡ g c) → (w : List ℕ)
    → every t w ≡ true
    → each_by f w ≡ each_by g w
unfolding each_by every
each_alike f g t h [] e = refl
each_alike f g t h (c ∷ w) e =
    ap₂ (λ (x y : List ℕ). x ++ y) (h c (and_left (t c) (every t w) e))
    (each_alike f g t h w (and_right (t c) (every t w) e))

-- what holds of a code holds of each of n copies of it
pub every_repeated : (t : ℕ → Bool) (n c : ℕ) → t c ≡ true → every t (replicate n c) ≡ true
unfolding every
every_repeated t zero c e = refl
every_repeated t (suc n) c e = and_both e (every_repeated t n c e)
