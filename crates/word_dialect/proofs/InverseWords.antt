-- Laws of the inverse of a word: of two words one after another, of an inverse, and under free reduction, where a word
-- followed by its inverse vanishes.
use Prim.Native.Nat.{ℕ}
use mathlib.Core.Path.{◌≡◌, refl, sym, ap, ap₂, ◌∙◌}
use mathlib.Core.List.{List, [], ◌∷◌, ◌++◌, append_assoc, append-nil}
use Rattle.base.specs.Lists.{every}
use Rattle.base.proofs.ListLaws.{and_both, every_append}
use Rattle.word.specs.Letters.{is_letter, inverse}
use Rattle.word.specs.Reduction.{in_front, reduced}
use Rattle.word.proofs.LetterLaws.{Lettered, lettered_cons, inverse_letter, inverse_twice}
use Rattle.word.proofs.ReductionLaws.{reduced_pair}
use Rattle.word_dialect.specs.Dialect.{inverted}

pub inverted_append : (u v : List ℕ) → inverted (u ++ v) ≡ inverted v ++ inverted u
unfolding inverted
inverted_append [] v = sym (append-nil (inverted v))
inverted_append (c ∷ u) v =
    ap (λ (l : List ℕ). l ++ (inverse c ∷ [])) (inverted_append u v)
    ∙ append_assoc (inverted v) (inverted u) (inverse c ∷ [])

pub inverted_lettered : (u : List ℕ) → Lettered u → Lettered (inverted u)
unfolding inverted every
inverted_lettered [] e = refl
inverted_lettered (c ∷ u) e =
    let t = lettered_cons c u e in
    every_append is_letter (inverted u) (inverse c ∷ [])
    ∙ and_both (inverted_lettered u t.1) (and_both (inverse_letter c t.0) refl)

pub inverted_twice : (u : List ℕ) → Lettered u → inverted (inverted u) ≡ u
unfolding inverted
inverted_twice [] e = refl
inverted_twice (c ∷ u) e =
    let t = lettered_cons c u e in
    inverted_append (inverted u) (inverse c ∷ [])
    ∙ ap₂ (λ (x : ℕ) (l : List ℕ). x ∷ l) (inverse_twice c t.0) (inverted_twice u t.1)

-- two words with the same reduced word have the same reduced word after one front
pub reduced_after : (s x y : List ℕ) → reduced x ≡ reduced y → reduced (s ++ x) ≡ reduced (s ++ y)
unfolding reduced
reduced_after [] x y e = e
reduced_after (c ∷ s) x y e = ap (in_front c) (reduced_after s x y e)

-- a word and then its inverse vanish
pub undone : (u v : List ℕ) → Lettered u → reduced (u ++ (inverted u ++ v)) ≡ reduced v
unfolding inverted
undone [] v e = refl
undone (c ∷ u) v e =
    let t = lettered_cons c u e in
    ap (λ (l : List ℕ). reduced (c ∷ (u ++ l))) (append_assoc (inverted u) (inverse c ∷ []) v)
    ∙ reduced_after (c ∷ []) (u ++ (inverted u ++ (inverse c ∷ v))) (inverse c ∷ v) (undone u (inverse c ∷ v) t.1)
    ∙ reduced_pair [] c (inverse c) v t.0 refl
