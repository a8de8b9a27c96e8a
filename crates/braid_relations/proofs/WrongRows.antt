-- A row of Appendix A with one letter mistyped is not kept: the first row with the wrong sign at its last letter, and
-- with the wrong number there. Each wrong row moves the starting pair over the field of 32.
use Prim.Native.Nat.{ℕ}
use mathlib.Core.Path.{◌≡◌, refl, ap}
use mathlib.Core.Bool.{true, false}
use mathlib.Core.List.{List, [], ◌∷◌}
use lib.ListN.{length}
use Rattle.base.specs.Lists.{every, equal, values_from, tally, each_once}
use Rattle.base.proofs.ListLaws.{true_false, equal_of}
use Rattle.field.specs.Polynomial.{times_x, horner, times, first_or_zero, reciprocal_of}
use Rattle.field.specs.Fields.{operations}
use Rattle.field.specs.declared.Field.TheVariants.{Gf32}
use Rattle.matrix.specs.Layout.{place, row_of, column_of, entry, matrix_of}
use Rattle.matrix.specs.Product.{identity}
use Rattle.word.specs.Strands.{strands_in_order, swapped, inverse_list, last_position}
use Rattle.pair.specs.declared.Pair.{Pair}
use Rattle.pair.specs.Action.{Share, t_value, share_of, row_after, rows_on, pair_of, letter_on, word_on}
use Rattle.word_dialect.specs.Dialect.{following, inverted, each_by, run_of, signed_run, run, converted}
use Rattle.braid_relations.specs.Relations.{artin, y, y⁻, Kept}
use Rattle.braid_relations.proofs.AllKept.{both_fields}

-- T-values with which the rows move the starting pair
abbrev values : List ℕ
values = 1 ∷ 1 ∷ 2 ∷ 3 ∷ 4 ∷ 5 ∷ 6 ∷ 7 ∷ []

abbrev start : Pair
start = pair_of identity strands_in_order

abbrev moved : List ℕ → Pair
moved row = word_on (operations Gf32) values (artin row) start

-- a kept row leaves the matrix
unmoved : (row : List ℕ) → Kept row → equal (moved row).matrix identity ≡ true
unfolding every values_from tally each_once place row_of column_of matrix_of identity
unmoved row k =
    equal_of
    (ap (λ (p : Pair). p.matrix)
    (both_fields row k Gf32 values identity strands_in_order refl refl refl refl refl refl refl))

-- {4,1} {7,1} {4,-1} {7,1}
pub sign_mistyped : Kept (y 4 ∷ y 7 ∷ y⁻ 4 ∷ y 7 ∷ []) → ⊥
unfolding every equal values_from times_x horner times first_or_zero reciprocal_of place row_of column_of entry
    matrix_of
    identity swapped inverse_list last_position t_value share_of row_after letter_on word_on following inverted
    each_by run_of
    signed_run run converted
sign_mistyped k = true_false false (unmoved (y 4 ∷ y 7 ∷ y⁻ 4 ∷ y 7 ∷ []) k) refl

-- {4,1} {7,1} {4,-1} {6,-1}
pub number_mistyped : Kept (y 4 ∷ y 7 ∷ y⁻ 4 ∷ y⁻ 6 ∷ []) → ⊥
unfolding every equal values_from times_x horner times first_or_zero reciprocal_of place row_of column_of entry
    matrix_of
    identity swapped inverse_list last_position t_value share_of row_after letter_on word_on following inverted
    each_by run_of
    signed_run run converted
number_mistyped k = true_false false (unmoved (y 4 ∷ y 7 ∷ y⁻ 4 ∷ y⁻ 6 ∷ []) k) refl
