-- The contract of a comparison shuts out a comparison that mixes rows and columns: one that reads its second matrix by
-- rows. The code compares two lists and knows no rows or columns, so no must-fail edit can state the wrong comparison.
use Prim.Native.Nat.{ℕ}
use mathlib.Core.Path.{◌≡◌, refl, sym, ◌∙◌}
use mathlib.Core.Bool.{Bool, false≢true}
use mathlib.Core.List.{List, ◌∷◌}
use lib.Dec.{lit<}
use lib.ListN.{replicate}
use Rattle.base.specs.Lists.{every, equal, values_from}
use Rattle.base.proofs.DigitLaws.{all_below}
use Rattle.base.proofs.ListLaws.{equal_refl}
use Rattle.matrix.specs.Layout.{Matrix}
use Rattle.matrix.specs.ByRows.{turned}

-- 1 in the second place and 0 everywhere else: read by rows, the list is another matrix than read by columns
abbrev lopsided : List ℕ
lopsided = 0 ∷ 1 ∷ replicate 62 0

lopsided_bytes : Matrix 256 lopsided
unfolding every
lopsided_bytes = record { size = refl; below = all_below 256 lopsided (lit< tt) refl }

-- two comparisons agree on any two matrices of 64 bytes
abbrev Says : (f g : List ℕ → List ℕ → Bool) → Type 0
Says f g = (a b : List ℕ) → Matrix 256 a → Matrix 256 b → f a b ≡ g a b

module _ (f : List ℕ → List ℕ → Bool) (right : Says f equal) where
  pub no_mixed_comparison : Says f (λ a b. equal a (turned b)) → ⊥
  unfolding turned equal values_from
  no_mixed_comparison wrong =
      let m = lopsided_bytes in
      false≢true (sym (wrong lopsided lopsided m m) ∙ right lopsided lopsided m m ∙ equal_refl lopsided)
