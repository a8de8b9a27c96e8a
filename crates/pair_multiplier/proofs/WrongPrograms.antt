-- The contract shuts out wrong multipliers, each by a witness: one that leaves its pair; one that takes the T-value at
-- a place and not that of the label there; one that exchanges two labels wherever they are and not two places; one that
-- changes a letter's own column before a neighbour has read it; one that keeps the positions, exchanges those of labels
-- i and i + 1, or counts them from 0. Each is refuted for positive letters alone and for inverse letters alone, on the
-- identity matrix with eight labels, each once. A multiplier that asks 6 before 4 is shut out too.
use Prim.Native.Nat.{ℕ, ◌+◌, ◌-◌}
use mathlib.Core.Path.{◌≡◌, refl, sym, ap, ◌∙◌}
use mathlib.Core.Bool.{Bool, true, false, cond}
use mathlib.Core.List.{List, [], ◌∷◌, map}
use native.Mathlib.Omega.{arith}
use lib.Dec.{eqb}
use lib.ListN.{length, get_or, replicate}
use Rattle.base.specs.Questions.{first_no}
use Rattle.base.specs.Lists.{every, values, values_from, equal, each_once, tally}
use Rattle.base.proofs.QuestionLaws.{granted_zero}
use Rattle.field.specs.Polynomial.{times_x, horner, times, first_or_zero, reciprocal_of}
use Rattle.field.specs.Gf32.{gf32}
use Rattle.field.specs.declared.Field.TheVariants.{Gf32}
use Rattle.word.specs.Letters.{generator, is_inverse}
use Rattle.pair.specs.declared.Pair.{Pair}
use Rattle.pair_multiplier.specs.declared.Multiplied.{Multiplied}
use Rattle.matrix.specs.Layout.{place, row_of, column_of, entry, matrix_of}
use Rattle.matrix.specs.Product.{identity}
use Rattle.word.specs.Strands.{swapped, inverse_list, last_position}
use Rattle.pair.specs.Action.{Share, t_value, share_of, row_after, rows_on, pair_of, letter_on, identity_with}
use Rattle.pair.specs.PairQuestions.{zero_pair}
use Rattle.pair_multiplier.specs.Multiplier.{multiplier_questions, Multiplies}

-- ---- what wrong multipliers do

abbrev pub LetterOn : Type 0
LetterOn = (ts : List ℕ) (c : ℕ) (p : Pair) → Pair

-- one letter, given by its share and the labels that it leaves
abbrev pub by : Share → List ℕ → ℕ → Pair → Pair
by s labels c p = pair_of (rows_on gf32 s (generator c) p.matrix) labels

-- takes the T-value at place i, and not that of the label there
abbrev pub of_place : LetterOn
of_place ts c p =
    by (share_of gf32 ts (values (λ a. a) 8) (is_inverse c) (generator c)) (swapped (generator c) p.labels) c p

-- swaps labels g and g + 1 wherever they are
abbrev pub exchanged : ℕ → List ℕ → List ℕ
exchanged g labels = map (λ l. cond (eqb l g) (g + 1) (cond (eqb l (g + 1)) g l)) labels

abbrev pub by_value : LetterOn
by_value ts c p = by (share_of gf32 ts p.labels (is_inverse c) (generator c)) (exchanged (generator c) p.labels) c p

-- Changes column i before a neighbour has read it. The column before (true) or the column after (false) gains its share
-- of the new column i.
abbrev pub late : Bool → Share → Share
late before s =
    record {
      before = λ x. s.before (cond before (s.own x) x);
      own = s.own;
      after = λ x. s.after (cond before x (s.own x));
    }

abbrev pub own_first : Bool → LetterOn
own_first before ts c p =
    by (late before (share_of gf32 ts p.labels (is_inverse c) (generator c))) (swapped (generator c) p.labels) c p

-- what the letter leaves, with other positions
abbrev with_positions : (List ℕ → ℕ → Pair → List ℕ) → LetterOn
with_positions positions ts c p =
    record {
      matrix = (letter_on gf32 ts c p).matrix;
      labels = (letter_on gf32 ts c p).labels;
      positions = positions ts c p;
    }

-- keeps the positions that the pair had
abbrev positions_kept : LetterOn
positions_kept = with_positions (λ ts c p. p.positions)

-- exchanges the positions of labels g and g + 1, and not those of the labels at places g and g + 1
abbrev positions_by_place : LetterOn
positions_by_place = with_positions (λ ts c p. swapped (generator c) p.positions)

-- counts positions from 0
abbrev positions_from_zero : LetterOn
positions_from_zero = with_positions (λ ts c p. map (λ i. i - 1) (letter_on gf32 ts c p).positions)

-- ---- multipliers

abbrev pub Multiplier : Type 0
Multiplier = (p : Pair) (ts : List ℕ) (c : ℕ) → Multiplied

-- 64 entries, eight labels, eight T-values and a code, which pass every question
pub record Accepted (p : Pair) (ts : List ℕ) (c : ℕ) : Type 0 where
  pub entries : length p.matrix ≡ 64
  pub strands : length p.labels ≡ 8
  pub t_values : length ts ≡ 8
  pub passed : first_no (multiplier_questions Gf32 p ts c) ≡ 0

abbrev pub Meets : Multiplier → Type 0
Meets f =
    (p : Pair) (ts : List ℕ) (c : ℕ) → Accepted p ts c → Multiplies Gf32 p ts c (f p ts c).answer (f p ts c).pair

-- The inputs of the witnesses: the T-values 1 1 2 3 4 5 6 7, and the identity matrix with the list 0 to 7 or with
-- another list.
abbrev plain : List ℕ
plain = 1 ∷ 1 ∷ 2 ∷ 3 ∷ 4 ∷ 5 ∷ 6 ∷ 7 ∷ []

abbrev in_order : List ℕ
in_order = 0 ∷ 1 ∷ 2 ∷ 3 ∷ 4 ∷ 5 ∷ 6 ∷ 7 ∷ []

abbrev other_labels : List ℕ
other_labels = 2 ∷ 3 ∷ 0 ∷ 1 ∷ 4 ∷ 5 ∷ 6 ∷ 7 ∷ []

-- what the witnesses compare: an entry of the matrix, rows and columns counted from 0, the first label, or the position
-- of label 2
abbrev at : ℕ → ℕ → Pair → ℕ
at r c p = entry p.matrix r c

abbrev first_label : Pair → ℕ
first_label p = get_or p.labels 0 0

abbrev position_of_2 : Pair → ℕ
position_of_2 p = get_or p.positions 2 0

-- ---- no wrong multiplier meets the contract

module _ (f : Multiplier) (meets : Meets f) where
  -- for letters of one sign, f gives what g gives
  abbrev Gives : Bool → LetterOn → Type 0
  Gives inverse g =
      (p : Pair) (ts : List ℕ) (c : ℕ) → Accepted p ts c → is_inverse c ≡ inverse → (f p ts c).pair ≡ g ts c p

  -- if f gives what g gives, then g agrees with the definition of a letter on the compared number
  shows : {inverse : Bool} {g : LetterOn} (look : Pair → ℕ) (labels : List ℕ) (c : ℕ) → Gives inverse g
      → length labels ≡ 8
      → first_no (multiplier_questions Gf32 (identity_with labels) plain c) ≡ 0 → is_inverse c ≡ inverse
      → look (letter_on gf32 plain c (identity_with labels)) ≡ look (g plain c (identity_with labels))
  unfolding identity row_of column_of matrix_of values_from
  shows look labels c gives l q s =
      let p : Pair = identity_with labels in
      let a : Accepted p plain c = record { entries = refl; strands = l; t_values = refl; passed = q } in
      ap look (sym ((meets p plain c a).pair_is ∙ granted_zero (letter_on gf32 plain c p) zero_pair q)
      ∙ gives p plain c a s)

  -- After b3, row 3 has 2, 2, 1 in columns 2, 3, 4. After b3⁻¹ it has 1, 28, 28 (document 01's slips).
  pub leaves_its_pair : (inverse : Bool) → Gives inverse (λ ts c p. p) → ⊥
  unfolding identity place row_of column_of entry matrix_of values_from first_no every tally equal each_once
      inverse_list
      last_position t_value share_of row_after
      letter_on times horner times_x
  leaves_its_pair true wrong = let e : ◌≡◌ {A = ℕ} 1 0 = shows (at 2 1) in_order 10 wrong refl refl refl in omega arith
  leaves_its_pair false wrong = let e : ◌≡◌ {A = ℕ} 2 0 = shows (at 2 1) in_order 2 wrong refl refl refl in omega arith

  pub own_column_first : (before inverse : Bool) → Gives inverse (own_first before) → ⊥
  unfolding identity place row_of column_of entry matrix_of values_from first_no every tally equal each_once
      inverse_list
      last_position t_value share_of row_after
      letter_on times horner times_x first_or_zero reciprocal_of
  own_column_first true true wrong =
      let e : ◌≡◌ {A = ℕ} 1 28 = shows (at 2 1) in_order 10 wrong refl refl refl in omega arith
  own_column_first true false wrong =
      let e : ◌≡◌ {A = ℕ} 2 4 = shows (at 2 1) in_order 2 wrong refl refl refl in omega arith
  own_column_first false true wrong =
      let e : ◌≡◌ {A = ℕ} 28 23 = shows (at 2 3) in_order 10 wrong refl refl refl in omega arith
  own_column_first false false wrong =
      let e : ◌≡◌ {A = ℕ} 1 2 = shows (at 2 3) in_order 2 wrong refl refl refl in omega arith

  -- Labels 2 and 3 stand at the first two places. b1 takes 2 and not 1, b1⁻¹ takes 28 and not 1, and label 3 then comes
  -- first.
  pub value_of_the_place : (inverse : Bool) → Gives inverse of_place → ⊥
  unfolding identity place row_of column_of entry matrix_of values_from first_no every tally equal each_once
      inverse_list
      last_position t_value share_of row_after
      letter_on times horner times_x first_or_zero reciprocal_of
  value_of_the_place true wrong =
      let e : ◌≡◌ {A = ℕ} 28 1 = shows (at 0 0) other_labels 8 wrong refl refl refl in omega arith
  value_of_the_place false wrong =
      let e : ◌≡◌ {A = ℕ} 2 1 = shows (at 0 0) other_labels 0 wrong refl refl refl in omega arith

  pub labels_by_value : (inverse : Bool) → Gives inverse by_value → ⊥
  unfolding first_no every tally equal each_once inverse_list last_position values_from identity row_of column_of
      matrix_of
      swapped letter_on
  labels_by_value true wrong =
      let e : ◌≡◌ {A = ℕ} 3 2 = shows first_label other_labels 8 wrong refl refl refl in omega arith
  labels_by_value false wrong =
      let e : ◌≡◌ {A = ℕ} 3 2 = shows first_label other_labels 0 wrong refl refl refl in omega arith

  -- Labels 2 and 3 stand at the first two positions. After b1 or b1⁻¹ label 2 stands at position 2.
  pub positions_kept_lem : (inverse : Bool) → Gives inverse positions_kept → ⊥
  unfolding first_no every tally equal each_once inverse_list last_position values_from identity row_of column_of
      matrix_of
      swapped letter_on
  positions_kept_lem true wrong =
      let e : ◌≡◌ {A = ℕ} 2 1 = shows position_of_2 other_labels 8 wrong refl refl refl in omega arith
  positions_kept_lem false wrong =
      let e : ◌≡◌ {A = ℕ} 2 1 = shows position_of_2 other_labels 0 wrong refl refl refl in omega arith

  pub positions_by_place_lem : (inverse : Bool) → Gives inverse positions_by_place → ⊥
  unfolding first_no every tally equal each_once inverse_list last_position values_from identity row_of column_of
      matrix_of
      swapped letter_on
  positions_by_place_lem true wrong =
      let e : ◌≡◌ {A = ℕ} 2 1 = shows position_of_2 other_labels 8 wrong refl refl refl in omega arith
  positions_by_place_lem false wrong =
      let e : ◌≡◌ {A = ℕ} 2 1 = shows position_of_2 other_labels 0 wrong refl refl refl in omega arith

  pub positions_from_zero_lem : (inverse : Bool) → Gives inverse positions_from_zero → ⊥
  unfolding first_no every tally equal each_once inverse_list last_position values_from identity row_of column_of
      matrix_of
      swapped letter_on
  positions_from_zero_lem true wrong =
      let e : ◌≡◌ {A = ℕ} 2 1 = shows position_of_2 other_labels 8 wrong refl refl refl in omega arith
  positions_from_zero_lem false wrong =
      let e : ◌≡◌ {A = ℕ} 2 1 = shows position_of_2 other_labels 0 wrong refl refl refl in omega arith

-- ---- the order of the questions

-- eight T-values 0 and eight labels 0 give 4, and not 6
pub no_6_before_4 : {answer : ℕ} {after : Pair}
    → Multiplies Gf32 (identity_with (replicate 8 0)) (replicate 8 0) 0 answer after → answer ≡ 6 → ⊥
unfolding identity row_of column_of matrix_of values_from first_no every
no_6_before_4 m wrong = let e : ◌≡◌ {A = ℕ} 6 4 = sym wrong ∙ m.answer_is in omega arith
