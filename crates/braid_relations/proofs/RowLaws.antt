-- Laws of rows: what holds of every row, and a row at the place where it holds two letters.
use Prim.Native.Nat.{ℕ, suc, ◌+◌, ◌<◌}
use mathlib.Core.Path.{◌≡◌, refl, sym, ap, ap₂, ◌∙◌}
use mathlib.Core.Bool.{true, ◌&&◌}
use mathlib.Core.List.{List, [], ◌∷◌, ◌++◌}
use native.Mathlib.Omega.{arith}
use borrow.Author.Tests.{leb-true, eqb-true}
use lib.Dec.{leb, eqb}
use lib.ListN.{length, take, drop, get_or}
use Rattle.base.specs.Lists.{every, first_from}
use Rattle.base.proofs.ListLaws.{and_left, and_right}
use Rattle.word.proofs.CancellationLaws.{around}
use Rattle.word_dialect.specs.Dialect.{part_sum, are_parts}
use Rattle.braid_handles.proofs.FirstPlaces.{found_passes}
use Rattle.braid_relations.specs.Relations.{appendix_parts, All, none, also, holds_at, place_in}

-- 4 and 3 are parts of 7
pub appendix_parts_lem : are_parts appendix_parts ≡ true
unfolding part_sum every
appendix_parts_lem = refl

pub all_of : {P Q : List ℕ → Type 0} → ((row : List ℕ) → P row → Q row) → {rows : List (List ℕ)} → All P rows
    → All Q rows
all_of f none = none
all_of f (also {row} p ps) = also (f row p) (all_of f ps)

-- a row that holds the letters is what stands before them, the letters, and what stands after them
pub row_apart : (c d : ℕ) (row : List ℕ) → place_in c d row < length row → let k = place_in c d row in
    row ≡ take k row ++ ((c ∷ d ∷ []) ++ drop (k + 2) row)
unfolding place_in
row_apart c d row h =
    let k = first_from (holds_at c d row) 0 (length row) in
    let t : holds_at c d row k ≡ true = found_passes (holds_at c d row) (length row) h in
    let both = and_right (leb (k + 2) (length row)) _ t in
    let first = eqb-true (get_or row k 0) c (and_left (eqb (get_or row k 0) c) _ both) in
    let second = eqb-true (get_or row (k + 1) 0) d (and_right (eqb (get_or row k 0) c) _ both) in
    sym (around k row (leb-true (k + 2) (length row) (and_left (leb (k + 2) (length row)) _ t)))
    ∙ ap₂ (λ (x y : ℕ). take k row ++ (x ∷ y ∷ drop (k + 2) row)) first second
