-- Laws of the code's loops over the entries: the first place that holds two letters, the first filler, and inverses
-- written one after another.
use Prim.Native.Nat.{ℕ, suc, ◌+◌, ◌-◌, ◌≤◌, ◌<◌}
use mathlib.Core.Path.{◌≡◌, sym, ap, ap₂, ◌∙◌}
use mathlib.Core.Bool.{Bool, true, false, cond, ◌&&◌}
use mathlib.Core.List.{List, [], ◌∷◌, ◌++◌, append_assoc}
use native.Mathlib.Omega.{arith}
use native.Mathlib.Numerals.{add-one}
use borrow.Author.Tests.{eq-eqb, ne_eqb}
use lib.Dec.{eqb}
use lib.ListN.{length, take, drop, get_or, set, drop_of_length-le}
use lib.Seq.{drop-cons, get_or-take, get_or-drop, take-suc-set}
use Rattle.base.specs.Digits.{part}
use Rattle.base.proofs.PackLaws.{length_part}
use Rattle.word.specs.Letters.{inverse}
use Rattle.word_dialect.specs.Dialect.{inverted}
use Rattle.word_replacement.specs.steps.Rows.{before, filled}

-- ---- the loops over the entries

module _ (c d : ℕ) (l : List ℕ) (k : ℕ) where
  taken_apart : k + 1 < length l → drop k l ≡ get_or l k 0 ∷ get_or l (k + 1) 0 ∷ drop (suc (k + 1)) l
  taken_apart h =
      drop-cons l k 0 (omega arith)
      ∙ ap (λ (m : List ℕ). get_or l k 0 ∷ m)
      (ap (λ (n : ℕ). drop n l) (sym (add-one k)) ∙ drop-cons l (k + 1) 0 h)

  -- the pair stands at place k, or later
  pub found_here : k + 1 < length l → (eqb (get_or l k 0) c && eqb (get_or l (k + 1) 0) d) ≡ true
      → before c d (drop k l) ≡ 0
  unfolding before
  found_here h e =
      ap (before c d) (taken_apart h)
      ∙ ap (λ (b : Bool). cond b 0 (suc (before c d (get_or l (k + 1) 0 ∷ drop (suc (k + 1)) l)))) e

  pub found_later : k + 1 < length l → (eqb (get_or l k 0) c && eqb (get_or l (k + 1) 0) d) ≡ false
      → before c d (drop k l) ≡ suc (before c d (drop (k + 1) l))
  unfolding before
  found_later h e =
      ap (before c d) (taken_apart h)
      ∙ ap (λ (b : Bool). cond b 0 (suc (before c d (get_or l (k + 1) 0 ∷ drop (suc (k + 1)) l)))) e
      ∙ ap (λ (m : List ℕ). suc (before c d m)) (sym (drop-cons l (k + 1) 0 h))

module _ (l : List ℕ) (k : ℕ) (h : k < length l) where
  pub filler_here : get_or l k 0 ≡ 15 → filled (drop k l) ≡ 0
  unfolding filled
  filler_here e =
      ap filled (drop-cons l k 0 h)
      ∙ ap (λ (b : Bool). cond b 0 (suc (filled (drop (suc k) l)))) (eq-eqb (get_or l k 0) 15 e)

  pub filler_later : (get_or l k 0 ≡ 15 → ⊥) → filled (drop k l) ≡ suc (filled (drop (k + 1) l))
  unfolding filled
  filler_later e =
      ap filled (drop-cons l k 0 h)
      ∙ ap (λ (b : Bool). cond b 0 (suc (filled (drop (suc k) l)))) (ne_eqb (get_or l k 0) 15 e)
      ∙ ap (λ (n : ℕ). suc (filled (drop n l))) (sym (add-one k))

pub filler_none : (l : List ℕ) (k : ℕ) → length l ≤ k → filled (drop k l) ≡ 0
unfolding filled
filler_none l k h = ap filled (drop_of_length-le l {i = k} h)

pub filled_short : (l : List ℕ) → filled l ≤ length l
unfolding filled
filled_short [] = omega arith
filled_short (x ∷ l) = go (eqb x 15) (filled_short l)
  where
    go : (b : Bool) → filled l ≤ length l → cond b 0 (suc (filled l)) ≤ suc (length l)
    go true h = omega arith
    go false h = omega arith

-- ---- writing inverses

-- one more inverse is written
pub inverse_more : (codes codes₀ rows : List ℕ) (at from n i : ℕ) → i < n → at + n ≤ length codes
    → from + n ≤ length rows
    → take (at + i) codes ≡ take at codes₀ ++ inverted (drop (n - i) (part from n rows))
    → take (at + (i + 1)) (set codes (at + i) (inverse (get_or rows (from + (n - 1 - i)) 0)))
    ≡ take at codes₀ ++ inverted (drop (n - (i + 1)) (part from n rows))
unfolding inverted
inverse_more codes codes₀ rows at from n i h room inside e =
    let p = part from n rows in
    let j : ℕ = n - 1 - i in
    let x = inverse (get_or rows (from + j) 0) in
    let size : length p ≡ n = length_part from n rows inside in
    let own : get_or p j 0 ≡ get_or rows (from + j) 0 =
    get_or-take n (drop from rows) j 0 (omega arith) ∙ get_or-drop from rows j 0 in
    let first : n - (i + 1) ≡ j = omega arith in
    let next : suc j ≡ n - i = omega arith in
    let apart : drop (n - (i + 1)) p ≡ get_or rows (from + j) 0 ∷ drop (n - i) p =
    ap (λ (m : ℕ). drop m p) first ∙ drop-cons p j 0 (omega arith)
    ∙ ap₂ (λ (y m : ℕ). y ∷ drop m p) own next in
    let s : at + (i + 1) ≡ suc (at + i) = omega arith in
    ap (λ (m : ℕ). take m (set codes (at + i) x)) s ∙ take-suc-set codes (at + i) x (omega arith)
    ∙ ap (λ (w : List ℕ). w ++ (x ∷ [])) e
    ∙ append_assoc (take at codes₀) (inverted (drop (n - i) p)) (x ∷ [])
    ∙ ap (λ (w : List ℕ). take at codes₀ ++ inverted w) (sym apart)
