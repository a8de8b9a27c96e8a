-- A key file holds its matrices by rows, and memory holds them by columns. The matrix that the reader gives is the
-- file's rows, one after another, with the layout changed. The entries that a file holds of a matrix with the layout
-- changed are the first 56 of its numbers by rows, and the last one.
use Prim.Native.Nat.{ℕ, ◌+◌, ◌*◌, ◌/◌, ◌%◌, ◌<◌}
use mathlib.Core.Path.{◌≡◌, sym, ap, ap₂, ◌∙◌}
use mathlib.Core.List.{List, [], ◌∷◌, ◌++◌}
use native.Mathlib.Omega.{arith}
use lib.ListN.{length, take, drop, get_or, replicate}
use lib.Seq.{get_or-take, length-take-le}
use Rattle.base.proofs.ListLaws.{values_of}
use Rattle.matrix.specs.Layout.{entry}
use Rattle.matrix.specs.ByRows.{turned, entry_by_rows}
use Rattle.matrix.proofs.LayoutLaws.{matrix_of_ext, matrix_of_entry}
use Rattle.matrix.proofs.ChangeOfLayout.{length_turned, entry_turned}
use Rattle.key.specs.Keys.{whole_matrix, file_entries}

-- the matrix that the reader gives
pub whole_turned : (es : List ℕ) → whole_matrix es ≡ turned (take 56 es ++ (replicate 7 0 ++ drop 56 es))
unfolding whole_matrix entry_by_rows
whole_turned es =
    let rows = take 56 es ++ (replicate 7 0 ++ drop 56 es) in
    matrix_of_ext (entry_by_rows rows) (entry (turned rows)) (λ r c hr hc. sym (entry_turned rows r c hr hc))
    ∙ matrix_of_entry (turned rows) (length_turned rows)

-- the entries that a file holds of a matrix
pub entries_turned : (m : List ℕ) → length m ≡ 64 → file_entries (turned m) ≡ take 56 m ++ (get_or m 63 0 ∷ [])
unfolding file_entries entry_by_rows
entries_turned m l =
    ap₂ (λ (xs : List ℕ) (x : ℕ). xs ++ (x ∷ []))
    (sym (values_of (λ k. entry (turned m) (k / 8) (k % 8)) 56 (take 56 m) (length-take-le 56 m (omega arith)) at))
    (entry_turned m 7 7 (omega arith) (omega arith))
  where
    at : (k : ℕ) → k < 56 → get_or (take 56 m) k 0 ≡ entry (turned m) (k / 8) (k % 8)
    at k h =
        let e : 8 * (k / 8) + k % 8 ≡ k = omega arith in
        rw get_or-take
        (sym (entry_turned m (k / 8) (k % 8) (omega arith) (omega arith) ∙ ap (λ (j : ℕ). get_or m j 0) e))
