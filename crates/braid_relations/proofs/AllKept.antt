-- Every row of Appendix A is kept. Turned into Artin letters, each row has no letter left after thirty steps of handle
-- reduction, which is one test that antt computes over the table. Steps leave the same braid, so each row is the same
-- braid as the empty word.
use Prim.Native.Nat.{ℕ, ◌<◌}
use mathlib.Core.Path.{◌≡◌, refl, sym, ◌∙◌, subst}
use mathlib.Core.Bool.{Bool, true, ◌&&◌}
use mathlib.Core.List.{List, [], ◌∷◌}
use lib.ListN.{length, get_or}
use Rattle.base.specs.Lists.{every, equal, values_from, first_from}
use Rattle.base.proofs.ListLaws.{and_left, and_right, equal_true}
use Rattle.word.specs.Letters.{is_letter}
use Rattle.word.proofs.LetterLaws.{Lettered}
use Rattle.word.specs.Strands.{is_order}
use Rattle.word.proofs.PositionLaws.{order_inverse}
use Rattle.field.specs.Fields.{operations}
use Rattle.field.specs.declared.Field.{Field}
use Rattle.field.proofs.Fields.{binary}
use Rattle.pair_operands.specs.Operands.{elements, nonzero}
use Rattle.pair.specs.Action.{pair_of, word_on}
use Rattle.pair.proofs.GoodLaws.{tested_pair, tested_values}
use Rattle.word_dialect.specs.Dialect.{from_y, following, inverted, each_by, run_of, signed_run, run, converted}
use Rattle.word_dialect.proofs.ConversionLaws.{converted_lettered}
use Rattle.braid_same.specs.SameBraid.{SameBraid}
use Rattle.braid_handles.specs.Handles.{is_handle, start_of, earliest_end, conjugated, stepped, after_steps}
use Rattle.braid_handles.proofs.StepKeeps.{steps_same}
use Rattle.braid_relations.specs.Relations.{appendix_parts, artin, relations, Kept, All, none, also}
use Rattle.braid_relations.proofs.RowLaws.{appendix_parts_lem, all_of}

-- a row is made of letters, and its Artin word reduces to nothing
abbrev reduces : List ℕ → Bool
reduces row = every is_letter row && equal (after_steps 30 (artin row)) []

abbrev all_reduce : List (List ℕ) → Bool
all_reduce [] = true
all_reduce (row ∷ rows) = reduces row && all_reduce rows

all_reduce_lem : all_reduce relations ≡ true
unfolding relations every equal following inverted each_by run_of signed_run run converted is_handle
    start_of earliest_end conjugated stepped after_steps first_from values_from
all_reduce_lem = refl

-- a row of letters, whose Artin word is the same braid as the empty word
pub record Relation (row : List ℕ) : Type 0 where
  pub lettered : Lettered row
  pub nothing : SameBraid (artin row) []

reduces_relation : (row : List ℕ) → reduces row ≡ true → Relation row
reduces_relation row e =
    let l : Lettered row = and_left (every is_letter row) (equal (after_steps 30 (artin row)) []) e in
    let end : after_steps 30 (artin row) ≡ [] =
    equal_true (after_steps 30 (artin row)) []
    (and_right (every is_letter row) (equal (after_steps 30 (artin row)) []) e) in
    record {
      lettered = l;
      nothing = rw end at (steps_same 30 (artin row)
          (converted_lettered from_y appendix_parts appendix_parts_lem row l));
    }

each_relation : (rows : List (List ℕ)) → all_reduce rows ≡ true → All Relation rows
each_relation [] e = none
each_relation (row ∷ rows) e =
    also (reduces_relation row (and_left (reduces row) (all_reduce rows) e))
    (each_relation rows (and_right (reduces row) (all_reduce rows) e))

pub all_relations : All Relation relations
all_relations = each_relation relations all_reduce_lem

-- ---- kept

relation_kept : (row : List ℕ) → Relation row → Kept row
unfolding word_on
relation_kept row r = record { carries = λ F L ts tv p good. sym (r.nothing.carried F L ts tv p good) }

-- every row of the table is kept
pub all_kept : All Kept relations
all_kept = all_of relation_kept all_relations

-- Over either field, in the terms of the multiplier's questions: any 64 elements, any list of 0 to 7 each once, any
-- eight T-values other than zero.
pub both_fields : (row : List ℕ) → Kept row → (f : Field) (ts m labels : List ℕ)
    → length ts ≡ 8 → elements f ts ≡ true → nonzero ts ≡ true
    → length m ≡ 64 → elements f m ≡ true
    → length labels ≡ 8 → is_order labels ≡ true
    → word_on (operations f) ts (artin row) (pair_of m labels) ≡ pair_of m labels
both_fields row k f ts m labels l e n lm em lo o =
    k.carries (operations f) (binary f) ts (tested_values f ts l e n) (pair_of m labels)
    (tested_pair f (pair_of m labels) lm lo em (order_inverse labels o))
