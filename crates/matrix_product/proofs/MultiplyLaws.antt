-- Laws of the product of two matrices by logarithms, one column after another.
use Prim.Native.Nat.{ℕ, ◌+◌, ◌<◌}
use mathlib.Core.Path.{◌≡◌, refl, ◌∙◌}
use mathlib.Core.List.{List}
use native.Mathlib.Omega.{arith}
use native.Mathlib.Decide.{ℕ_discrete}
use lib.ListN.{length, get_or, set, length-set}
use Rattle.field.specs.Fields.{operations}
use Rattle.field.specs.declared.Field.{Field}
use Rattle.field_logarithms.specs.steps.Logarithms.{ProductsBy, LogarithmsOf}
use Rattle.field_logarithms.proofs.PowerLaws.{sum_product}
use Rattle.matrix.specs.Layout.{place, entry}
use Rattle.matrix.specs.Product.{row_by}
use Rattle.matrix_product.specs.steps.Multiplying.{Near, row_by_logarithms, ColumnFilled}
use Rattle.matrix.proofs.LayoutLaws.{place_below}
use Rattle.matrix.proofs.StoreLaws.{store_same, store_other}
use Rattle.matrix.proofs.SumLaws.{sum_ext}

-- the sum of any two logarithms leads to a place in the table
pub all_near : {f : Field} {table : List ℕ} → ProductsBy f table → (y : ℕ → ℕ) (n : ℕ) (logs : List ℕ)
    → LogarithmsOf table y n logs
    → Near table n logs
all_near by y n logs l k h = omega (arith, (l k h).entry, by.near (y k) (l k h).byte)

-- ---- a column of the product, row after row

pub filled_start : (g : ℕ → ℕ) (column : ℕ) (m : List ℕ) → length m ≡ 64 → ColumnFilled g column 0 m m
filled_start g column m l = record { size = l; there = λ i h. absurd (omega arith); elsewhere = λ i c hi hc d. refl }

pub filled_next : (g : ℕ → ℕ) (column r : ℕ) (m a : List ℕ) → r < 8 → column < 8 → ColumnFilled g column r m a
    → ColumnFilled g column (r + 1) m (set a (place r column) (g r))
filled_next g column r m a hr hc w =
    record {
      size = length-set a (place r column) (g r) ∙ w.size;
      there = λ i h. at i h (ℕ_discrete i r);
      elsewhere = λ i c hi h d. store_other a r column (g r) hr hc i c hi h (λ _ e. d e) ∙ w.elsewhere i c hi h d;
    }
  where
    at : (i : ℕ) → i < r + 1 → Dec (i ≡ r) → entry (set a (place r column) (g r)) i column ≡ g i
    at i h (yes e) = rw e (store_same a r column (g r) hr hc w.size)
    at i h (no d) = store_other a r column (g r) hr hc i column (omega arith) hc (λ e _. d e) ∙ w.there i (omega arith)

-- ---- the product, column after column

module _ {f : Field} {table : List ℕ} (by : ProductsBy f table) (a rows b : List ℕ)
    (l : LogarithmsOf table (λ k. get_or a k 0) 64 rows) where
  row_product : (c : ℕ) (column : List ℕ) → LogarithmsOf table (λ k. entry b k c) 8 column → (r : ℕ) → r < 8
      → row_by_logarithms (operations f) table rows column r ≡ row_by (operations f) 8 (entry a r) (entry b) c
  unfolding entry
  row_product c column k r hr =
      sum_ext (operations f) _ _ 8 (λ j h. sum_product by (l (place r j) (place_below r j hr h)) (k j h))

  pub columns_next : (c : ℕ) (m after column : List ℕ) → c < 8 → LogarithmsOf table (λ k. entry b k c) 8 column
      → ColumnFilled (row_by_logarithms (operations f) table rows column) c 8 m after
      → ((r k : ℕ) → r < 8 → k < c → entry m r k ≡ row_by (operations f) 8 (entry a r) (entry b) k)
      → (r k : ℕ) → r < 8 → k < c + 1 → entry after r k ≡ row_by (operations f) 8 (entry a r) (entry b) k
  columns_next c m after column hc logs w rec r k hr hk = at (ℕ_discrete k c)
    where
      at : Dec (k ≡ c) → entry after r k ≡ row_by (operations f) 8 (entry a r) (entry b) k
      at (yes e) = rw e (w.there r hr ∙ row_product c column logs r hr)
      at (no d) = w.elsewhere r k hr (omega arith) d ∙ rec r k hr (omega arith)
